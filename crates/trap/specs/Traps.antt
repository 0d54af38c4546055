-- A game with more capture places.
use Rattle.std.specs.Prelude.{◌≡◌, ℕ, Bool, ◌||◌, List, [], ◌∷◌, length, ◌==◌, slice_index}
use Rattle.arena.specs.Bytes.{AllUpTo}
use Rattle.arena.specs.Game.{Game, Rules}

-- the rules, where each place that passes a test is a capture place too
abbrev pub caught_too : Rules → (ℕ → Bool) → Rules
caught_too R also = record { owner = R.owner; capture = λ p. R.capture p || also p; moves = R.moves }

-- whether the byte of a place is 1; a place past the end has none
abbrev pub is_trapped : List ℕ → ℕ → Bool
is_trapped bytes p = slice_index bytes p == 1

-- the game, where each place whose byte is 1 is a capture place too
abbrev pub with_traps : Game → List ℕ → Game
with_traps g bytes = record { size = g.size; rules = caught_too g.rules (is_trapped bytes) }

-- the game under a pile of traps, the topmost layer first
abbrev pub piled : Game → List (List ℕ) → Game
piled g [] = g
piled g (bytes ∷ below) = with_traps (piled g below) bytes

-- each byte is 0 or 1
abbrev pub Bits : List ℕ → Type 0
Bits bytes = AllUpTo 1 bytes

-- one byte for each place of a game, each 0 or 1
abbrev pub Traps : Game → List ℕ → Type 0
Traps g bytes = (length bytes ≡ g.size) × Bits bytes
