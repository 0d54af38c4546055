-- Why bits and a length make no pattern.
use Rattle.std.specs.Prelude.{◌≡◌, ℕ, ◌≤◌, true, List, []}
use Rattle.board.specs.Patterns.{bit, LawfulLength, Within, HasNoBit}
use Rattle.board.specs.declared.pattern.refusal.PatternRefusal.{PatternRefusal}
use Rattle.board.specs.declared.pattern.refusal.PatternRefusal.TheVariants.{Length, BitPastLength, NoBit}

-- the number of each refusal, and its values
abbrev pub told : PatternRefusal → ℕ × List ℕ
told Length = (1, [])
told BitPastLength = (2, [])
told NoBit = (3, [])

-- what is wrong; each cause only where those before it are absent
abbrev pub Cause : ℕ → ℕ → PatternRefusal → Type 0
Cause bits steps Length = LawfulLength steps → ⊥
Cause bits steps BitPastLength = LawfulLength steps × ((i : ℕ) × (steps ≤ i) × (bit bits i ≡ true))
Cause bits steps NoBit = LawfulLength steps × Within bits steps × HasNoBit bits
