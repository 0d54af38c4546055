-- A table of a finite game: a mark for each place, then a move word for each; and when what it claims is true.
use Rattle.std.specs.Prelude.{ℕ, ◌+◌, List, slice_index}
use Rattle.arena.specs.Game.{Game, Rules, places}
use Rattle.arena.specs.Claims.{Claims}
use Rattle.arena.specs.Folds.{Folds}

-- the mark of a place: the first words are the marks
abbrev pub marks_of : List ℕ → ℕ → ℕ
marks_of W p = slice_index W p

-- the move word of a place: the second half has the move words
abbrev pub moves_of : Game → List ℕ → ℕ → ℕ
moves_of g W p = slice_index W (g.size + p)

-- the marks and both plans of the table W are so, of whole plays, from every place of the game
abbrev pub TrueTable : Game → List ℕ → Type 0
TrueTable g W = Claims g.rules (places g) (marks_of W) (moves_of g W)

-- they are so in every game that folds onto it, each place with the mark and the move word of its folded place
abbrev pub TrueFolded : Game → List ℕ → Type 0
TrueFolded g W =
    (R : Rules) (φ : ℕ → ℕ) → Folds R g.rules φ → Claims R (λ x. places g (φ x)) (λ x. marks_of W (φ x)) (λ x. moves_of g W (φ x))
