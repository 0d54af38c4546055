-- Three rows that list a game: a kind for each place, where each place's moves start, and the moves.
use Rattle.std.specs.Prelude.{◌≡◌, ℕ, ◌+◌, ◌-◌, ◌<◌, ◌≤◌, List, [], ◌∷◌, length, take, drop, slice_index}
use Rattle.arena.specs.Bytes.{AllUpTo, FirstAbove}
use Rattle.arena.specs.Causes.{CausesExclude}
use Rattle.arena.specs.Game.{Game}
use Rattle.arena.specs.Kind.{is_capture_kind}
pub use Rattle.arena.specs.Kind.{owner_of}
use Rattle.arena.specs.declared.listing_refusal.ListingRefusal.{ListingRefusal}
use Rattle.arena.specs.declared.listing_refusal.ListingRefusal.TheVariants.{Kind, Starts}

-- the moves of the place p: from its start up to before the next start
abbrev pub moves_of : List ℕ → List ℕ → ℕ → List ℕ
moves_of starts moves p = take (slice_index starts (p + 1) - slice_index starts p) (drop (slice_index starts p) moves)

-- the game that the rows list
abbrev pub listed : List ℕ → List ℕ → List ℕ → Game
listed kinds starts moves = record {
  size = length kinds;
  rules = record {
    owner = λ p. owner_of (slice_index kinds p);
    capture = λ p. is_capture_kind (slice_index kinds p);
    moves = moves_of starts moves;
  };
}

-- each kind is at most 3
abbrev pub Kinds : List ℕ → Type 0
Kinds kinds = AllUpTo 3 kinds

-- a start for each of n places and one more, from 0, not falling, up to the number m of moves
abbrev pub Parts : ℕ → ℕ → List ℕ → Type 0
Parts n m starts = (length starts ≡ n + 1) × (slice_index starts 0 ≡ 0) × ((k : ℕ) → k < n → slice_index starts k ≤ slice_index starts (k + 1)) × (slice_index starts n ≡ m)

-- the rows list a game
abbrev pub LawfulRows : List ℕ → List ℕ → List ℕ → Type 0
LawfulRows kinds starts moves = Kinds kinds × Parts (length kinds) (length moves) starts

-- the place p is the first whose kind is above 3
abbrev pub FirstKind : List ℕ → ℕ → Type 0
FirstKind kinds p = FirstAbove 3 kinds p

-- the number of each refusal, and its values
abbrev pub told : ListingRefusal → ℕ × List ℕ
told (Kind p) = (11, p ∷ [])
told Starts = (12, [])

-- why rows list no game; each cause only where those before it are absent
abbrev pub Cause : List ℕ → List ℕ → List ℕ → ListingRefusal → Type 0
Cause kinds starts moves (Kind p) = FirstKind kinds p
Cause kinds starts moves Starts = Kinds kinds × (Parts (length kinds) (length moves) starts → ⊥)

-- rows that are refused are not lawful, and only one cause fits them
abbrev pub Exact : Type 0
Exact = (kinds starts moves : List ℕ) → CausesExclude (LawfulRows kinds starts moves) (Cause kinds starts moves)
