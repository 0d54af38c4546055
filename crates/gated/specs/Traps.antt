-- Traps on spots: a runner who stands on one is caught.
use Rattle.std.specs.Prelude.{ℕ, Bool, cond, List, map, ◌==◌, nat_lt}
use Rattle.std.specs.List.{range_with_len, list_all, list_any}
use Rattle.board.specs.Gates.{places}
use Rattle.gated.specs.Places.{runner_of}

-- whether a spot is trapped
abbrev pub is_trap : List ℕ → ℕ → Bool
is_trap traps v = list_any (λ t. t == v) traps

-- whether each trap is on a spot below n
abbrev pub all_below : ℕ → List ℕ → Bool
all_below n traps = list_all (λ t. nat_lt t n) traps

-- the byte of a spot: 1 if it is trapped, else 0
abbrev pub spot_byte : List ℕ → ℕ → ℕ
spot_byte traps v = cond (is_trap traps v) 1 0

-- a byte for each place: that of the spot where the runner stands
abbrev pub trap_bytes : ℕ → ℕ → List ℕ → List ℕ
trap_bytes n T traps = map (λ p. spot_byte traps (runner_of n p)) (range_with_len 0 (places n T))
