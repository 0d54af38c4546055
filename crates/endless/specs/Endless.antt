-- The game with a clock that counts 0, 1, 2 without end, and how it folds onto the board's.
use Rattle.std.specs.Prelude.{ℕ, zero, suc, ◌+◌}
use Rattle.arena.specs.Game.{Rules}
use Rattle.board.specs.declared.board.Board.{Board}
use Rattle.board.specs.Boards.{spots_of, period_of, gates_of}
use Rattle.gated.specs.Exits.{exits_at}
use Rattle.gated.specs.Places.{number, next, step_of, turn_of, pursuer_of, runner_of, rules_by}

-- the rules of a board, where each step is followed by the next number; places are numbered as on the board, without end
abbrev pub endless_rules : Board → Rules
endless_rules b = rules_by (spots_of b) (λ t. t + 1) (exits_at (gates_of b))

-- the step that a clock of T steps reaches from 0 after t steps
abbrev pub reached : ℕ → ℕ → ℕ
reached T zero = 0
reached T (suc t) = next T (reached T t)

-- the board's place of an endless one: the same, at the step that the board's clock reaches from 0 after as many steps
abbrev pub fold : Board → ℕ → ℕ
fold b x =
    number (spots_of b) (reached (period_of b) (step_of (spots_of b) x)) (turn_of (spots_of b) x) (pursuer_of (spots_of b) x) (runner_of (spots_of b) x)
