-- What is seen from a place.
use Rattle.std.specs.Prelude.{ℕ, min, List, map}
use Rattle.arena.specs.Game.{Rules}
use Rattle.rounds.specs.Words.{marks_of}

-- the marks at the moves of p, in their order, where one of c or more counts as c
abbrev pub seen_row : Rules → ℕ → List ℕ → ℕ → List ℕ
seen_row R c W p = map (λ q. min (marks_of W q) c) (R.moves p)
