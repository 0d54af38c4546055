-- Where a player may go from a spot at a step.
use Rattle.std.specs.Prelude.{ℕ, Bool, cond, ◌||◌, List, [], ◌∷◌, ◌++◌, ◌==◌}
use Rattle.board.specs.declared.gate.Gate.{Gate}
use Rattle.board.specs.Gates.{is_open}

-- the far end of a gate from a spot, if the spot is one of its ends
abbrev pub across : ℕ → Gate → List ℕ
across spot g = cond (spot == g.from) (g.to ∷ []) (cond (spot == g.to) (g.from ∷ []) [])

-- the far end of a gate from a spot, if it is open at step t
abbrev pub far : ℕ → ℕ → Gate → List ℕ
far t spot g = cond (is_open g t) (across spot g) []

-- the far ends of the gates at a spot that are open at step t, in listed order
abbrev pub fars : ℕ → ℕ → List Gate → List ℕ
fars t spot [] = []
fars t spot (g ∷ gs) = far t spot g ++ fars t spot gs

-- where a player at a spot may be after a move at step t: at the spot itself, then at those far ends
abbrev pub exits_at : List Gate → ℕ → ℕ → List ℕ
exits_at gates t spot = spot ∷ fars t spot gates

-- whether a spot is an end of a gate
abbrev pub touches : ℕ → Gate → Bool
touches spot g = spot == g.from || spot == g.to
