-- What one round does.
use Rattle.std.specs.Prelude.{◌≡◌, ℕ, ◌+◌, List}
use Rattle.arena.specs.Game.{Game}
use Rattle.rounds.specs.declared.made.Made.{Made}
use Rattle.rounds.specs.Words.{Rounded, blanks, looks_of}

-- round i turns W to V; it marked as many places as there are blank marks fewer, and looked at each move of the places that were blank as it began
pub record MarksRound (g : Game) (i : ℕ) (W V : List ℕ) (m : Made) : Type 0 where
  pub rounded : Rounded g i W V
  pub marked : m.marked + blanks g.size V ≡ blanks g.size W
  pub looked : m.looks ≡ looks_of g.rules g.size W
