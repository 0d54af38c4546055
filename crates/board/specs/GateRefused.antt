-- When a gate may be added to those of a board in the making, and why not.
use Rattle.std.specs.Prelude.{◌≡◌, ℕ, ◌<◌, ◌≤◌, true, false, List, [], length, Option, Some, None, ◌≢◌}
use Rattle.board.specs.declared.gate.Gate.{Gate}
use Rattle.board.specs.Gates.{repeats}
use Rattle.board.specs.declared.draft.refusal.GateRefusal.{GateRefusal}
use Rattle.board.specs.declared.draft.refusal.GateRefusal.TheVariants.{OffBoard, EqualEnds, RepeatedPair, TooMany, NoMemory}

-- the number of each refusal, and its values; want of memory has no number
abbrev pub told : GateRefusal → ℕ × List ℕ
told OffBoard = (7, [])
told EqualEnds = (8, [])
told RepeatedPair = (8, [])
told TooMany = (9, [])
told NoMemory = (0, [])

-- the same, with nothing in place of the 0 that stands for no number
abbrev pub rule_told : GateRefusal → Option (ℕ × List ℕ)
rule_told NoMemory = None
rule_told why = Some (told why)

-- both ends are below n
abbrev pub EndsBelow : ℕ → Gate → Type 0
EndsBelow n g = (g.from < n) × (g.to < n)

-- the gate joins two spots below n, not the same, of no pair that is there already, and it is not the 257th
abbrev pub Fits : ℕ → List Gate → Gate → Type 0
Fits n gates g = EndsBelow n g × (g.from ≢ g.to) × (repeats g gates ≡ false) × (length gates < 256)

-- what is wrong; each cause only where those before it are absent, and want of memory only where the gate fits
abbrev pub Cause : ℕ → List Gate → Gate → GateRefusal → Type 0
Cause n gates g OffBoard = EndsBelow n g → ⊥
Cause n gates g EqualEnds = EndsBelow n g × (g.from ≡ g.to)
Cause n gates g RepeatedPair = EndsBelow n g × (g.from ≢ g.to) × (repeats g gates ≡ true)
Cause n gates g TooMany = EndsBelow n g × (g.from ≢ g.to) × (repeats g gates ≡ false) × (256 ≤ length gates)
Cause n gates g NoMemory = Fits n gates g
