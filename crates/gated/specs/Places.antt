-- The places of a board of n spots, by their numbers, and the game on them.
use Rattle.std.specs.Prelude.{ℕ, ◌+◌, ◌*◌, ◌/◌, ◌%◌, cond, List, map, ◌==◌}
use Rattle.arena.specs.Game.{Rules, Game}
use Rattle.arena.specs.declared.player.Player.{Player}
use Rattle.arena.specs.declared.player.Player.TheVariants.{Runner, Pursuer}
use Rattle.board.specs.declared.gate.Gate.{Gate}
use Rattle.board.specs.Gates.{places}
use Rattle.gated.specs.Exits.{exits_at}

-- the number of the place at step t, with s to move (0 the pursuer, 1 the runner), the pursuer at c and the runner at r
abbrev pub number : ℕ → ℕ → ℕ → ℕ → ℕ → ℕ
number n t s c r = ((t * 2 + s) * n + c) * n + r

-- the runner's spot
abbrev pub runner_of : ℕ → ℕ → ℕ
runner_of n p = p % n

-- the pursuer's spot
abbrev pub pursuer_of : ℕ → ℕ → ℕ
pursuer_of n p = p / n % n

-- who is to move: 0 the pursuer, 1 the runner
abbrev pub turn_of : ℕ → ℕ → ℕ
turn_of n p = p / n / n % 2

-- the step
abbrev pub step_of : ℕ → ℕ → ℕ
step_of n p = p / n / n / 2

-- the player of a turn
abbrev pub player : ℕ → Player
player s = cond (s == 0) Pursuer Runner

-- the turn of a player
abbrev pub turn_number : Player → ℕ
turn_number Pursuer = 0
turn_number Runner = 1

-- the next step of a clock of T steps
abbrev pub next : ℕ → ℕ → ℕ
next T t = (t + 1) % T

-- the spot of the player to move, of the pursuer's and the runner's
abbrev pub mover : Player → ℕ → ℕ → ℕ
mover Pursuer c r = c
mover Runner c r = r

-- the place after the player to move has gone to e: the pursuer keeps the step, the runner moves the clock on
abbrev pub moved : ℕ → (ℕ → ℕ) → Player → ℕ → ℕ → ℕ → ℕ → ℕ
moved n after Pursuer t c r e = number n t 1 e r
moved n after Runner t c r e = number n (after t) 0 c e

-- the moves at a step, given the player to move and both spots
abbrev pub moves_by : ℕ → (ℕ → ℕ) → (ℕ → ℕ → List ℕ) → Player → ℕ → ℕ → ℕ → List ℕ
moves_by n after exits s t c r = map (moved n after s t c r) (exits t (mover s c r))

-- the rules, with a clock that goes from each step to the one after it, and the exits of each spot at each step
abbrev pub rules_by : ℕ → (ℕ → ℕ) → (ℕ → ℕ → List ℕ) → Rules
rules_by n after exits = record {
  owner = λ p. player (turn_of n p);
  capture = λ p. (pursuer_of n p == runner_of n p);
  moves = λ p. moves_by n after exits (player (turn_of n p)) (step_of n p) (pursuer_of n p) (runner_of n p);
}

-- the game of a board of n spots, with a clock of T steps and these gates
abbrev pub board_game : ℕ → ℕ → List Gate → Game
board_game n T gates = record { size = places n T; rules = rules_by n (next T) (exits_at gates) }
