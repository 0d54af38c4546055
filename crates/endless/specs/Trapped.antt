-- Traps on spots, in the board's game and in the endless one.
use Rattle.std.specs.Prelude.{◌≡◌, ℕ, ◌<◌, Bool, List}
use Rattle.board.specs.declared.board.Board.{Board}
use Rattle.board.specs.Boards.{spots_of, period_of}
use Rattle.board.specs.Gates.{places}
use Rattle.gated.specs.Places.{runner_of}
use Rattle.gated.specs.Traps.{is_trap, trap_bytes}
use Rattle.trap.specs.Traps.{is_trapped}

-- whether the runner stands on a trap
abbrev pub on_trap : Board → List ℕ → ℕ → Bool
on_trap b traps x = is_trap traps (runner_of (spots_of b) x)

-- a test of the board's places that tells where the runner stands on a trap
abbrev pub TellsTraps : Board → List ℕ → (ℕ → Bool) → Type 0
TellsTraps b traps also = (p : ℕ) → p < places (spots_of b) (period_of b) → also p ≡ on_trap b traps p

-- the test by the bytes of the traps
abbrev pub by_bytes : Board → List ℕ → ℕ → Bool
by_bytes b traps p = is_trapped (trap_bytes (spots_of b) (period_of b) traps) p
