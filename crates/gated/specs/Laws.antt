-- The laws of places and boards: each is on the contract of a function of the module `laws`.
use Rattle.std.specs.Prelude.{◌≡◌, ℕ, ◌<◌}
use Rattle.arena.specs.Sound.{Sound}
use Rattle.board.specs.declared.board.Board.{Board}
use Rattle.board.specs.Gates.{places}
use Rattle.gated.specs.Places.{number, step_of, turn_of, pursuer_of, runner_of}
use Rattle.gated.specs.Games.{game_of}

-- these are the parts of some place, of n spots and a clock of T steps
pub record Within (n T t s c r : ℕ) : Type 0 where
  pub step : t < T
  pub turn : s < 2
  pub pursuer : c < n
  pub runner : r < n

-- a number is the number of its parts, and each part of a number is what it was made of
pub record Inverse (n T : ℕ) : Type 0 where
  pub parts_within : (p : ℕ) → p < places n T → Within n T (step_of n p) (turn_of n p) (pursuer_of n p) (runner_of n p)
  pub number_of_parts : (p : ℕ) → number n (step_of n p) (turn_of n p) (pursuer_of n p) (runner_of n p) ≡ p
  pub number_below : (t s c r : ℕ) → Within n T t s c r → number n t s c r < places n T
  pub parts_of_number : (t s c r : ℕ) → Within n T t s c r
      → (step_of n (number n t s c r) ≡ t) × (turn_of n (number n t s c r) ≡ s) × (pursuer_of n (number n t s c r) ≡ c) × (runner_of n (number n t s c r) ≡ r)

-- numbers and parts are inverse
abbrev pub NumbersInverse : Type 0
NumbersInverse = (n T : ℕ) → 0 < n → Inverse n T

-- the game of every board is sound
abbrev pub BoardsSound : Type 0
BoardsSound = (b : Board) → Sound (game_of b)
