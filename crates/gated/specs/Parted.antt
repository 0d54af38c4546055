-- The parts of a place's number.
use Rattle.std.specs.Prelude.{◌≡◌, ℕ, ◌<◌}
use Rattle.board.specs.Gates.{places}
use Rattle.gated.specs.declared.parts.Parts.{Parts}
use Rattle.board.specs.declared.board.Board.{Board}
use Rattle.board.specs.Boards.{spots_of, period_of}
use Rattle.gated.specs.Places.{runner_of, pursuer_of, turn_of, step_of, player, mover}

-- the number p of a place, of n spots and a clock of T steps, has the parts q
pub record Parted (n T p : ℕ) (q : Parts) : Type 0 where
  pub on_board : p < places n T
  pub step : q.step ≡ step_of n p
  pub turn : q.turn ≡ player (turn_of n p)
  pub pursuer : q.pursuer ≡ pursuer_of n p
  pub runner : q.runner ≡ runner_of n p

-- these are the parts of a place of a board: its clock has the step, and both spots are its own
pub record OnBoard (b : Board) (q : Parts) : Type 0 where
  pub step : q.step < period_of b
  pub pursuer : q.pursuer < spots_of b
  pub runner : q.runner < spots_of b

-- the spot of the player to move
abbrev pub spot_of : Parts → ℕ
spot_of q = mover q.turn q.pursuer q.runner
