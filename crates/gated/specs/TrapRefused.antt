-- Why traps are not laid.
use Rattle.std.specs.Prelude.{◌≡◌, ℕ, true, false, List, [], Option, Some, None}
use Rattle.gated.specs.Traps.{all_below}
use Rattle.gated.specs.declared.refusal.TrapRefusal.{TrapRefusal}
use Rattle.gated.specs.declared.refusal.TrapRefusal.TheVariants.{OffBoard, NoMemory}

-- the number of each refusal, and its values; want of memory has no number
abbrev pub told : TrapRefusal → ℕ × List ℕ
told OffBoard = (21, [])
told NoMemory = (0, [])

-- the same, with nothing in place of the 0 that stands for no number
abbrev pub rule_told : TrapRefusal → Option (ℕ × List ℕ)
rule_told NoMemory = None
rule_told why = Some (told why)

-- what is wrong; want of memory only where each trap is on the board
abbrev pub Cause : ℕ → List ℕ → TrapRefusal → Type 0
Cause n traps OffBoard = all_below n traps ≡ false
Cause n traps NoMemory = all_below n traps ≡ true
