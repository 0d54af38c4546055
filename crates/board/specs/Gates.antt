-- Gates between spots: when one is open, and which of them a board may have.
use Rattle.std.specs.Prelude.{◌≡◌, ℕ, ◌*◌, ◌<◌, ◌≤◌, Bool, true, not, ◌&&◌, ◌||◌, List, [], ◌∷◌, length, ◌==◌, nat_lt}
use Rattle.std.specs.List.{list_any}
use Rattle.board.specs.declared.gate.Gate.{Gate}
use Rattle.board.specs.Patterns.{opens}

-- whether a gate is open at step t
abbrev pub is_open : Gate → ℕ → Bool
is_open g t = opens g.pattern.bits g.pattern.steps t

-- whether a gate joins two spots below n, not the same
abbrev pub joins : ℕ → Gate → Bool
joins n g = (nat_lt g.from n && nat_lt g.to n) && not (g.from == g.to)

-- whether two gates join the same pair of spots, in either order
abbrev pub same_pair : Gate → Gate → Bool
same_pair g h = (g.from == h.from && g.to == h.to) || (g.from == h.to && g.to == h.from)

-- whether some gate of a list joins the same pair as g
abbrev pub repeats : Gate → List Gate → Bool
repeats g gates = list_any (same_pair g) gates

-- whether each gate joins two spots below n, not the same
abbrev pub all_join : ℕ → List Gate → Bool
all_join n [] = true
all_join n (g ∷ gs) = joins n g && all_join n gs

-- whether no pair of spots is joined twice
abbrev pub pairs_once : List Gate → Bool
pairs_once [] = true
pairs_once (g ∷ gs) = not (repeats g gs) && pairs_once gs

-- a board has from 1 to 64 spots
abbrev pub LawfulSpots : ℕ → Type 0
LawfulSpots n = (0 < n) × (n ≤ 64)

-- a board of n spots may have these gates
abbrev pub LawfulGates : ℕ → List Gate → Type 0
LawfulGates n gates = (length gates ≤ 256) × (all_join n gates ≡ true) × (pairs_once gates ≡ true)

-- how many places a board has, of n spots and a clock of T steps: a step, a player to move, and two spots
abbrev pub places : ℕ → ℕ → ℕ
places n T = T * 2 * n * n
