-- What holds of a run told one arena after any number of rounds.
use Rattle.std.specs.Prelude.{◌≡◌, ℕ}
use Rattle.arena.specs.Game.{Game, places}
use Rattle.arena.specs.Levels.{ByLevels}
use Rattle.solver.specs.Reached.{AfterRound}
use Rattle.solver.specs.State.{State}
use Rattle.solver.specs.Whole.{looks_sum}

-- the table holds the marks up to the rounds made, and the looks are that many first terms of their sum
pub record Progress (g : Game) (s : State) : Type 0 where
  pub after : AfterRound g s.rounds s.words
  pub looked : (μ : ℕ → ℕ) → ByLevels g.rules (places g) μ → s.looks ≡ looks_sum g μ s.rounds
