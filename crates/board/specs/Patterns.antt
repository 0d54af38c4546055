-- What a pattern is, and when it is open: bit i of its bits says step i.
use Rattle.std.specs.Prelude.{◌≡◌, ℕ, ◌/◌, ◌%◌, ◌^◌, ◌<◌, ◌≤◌, Bool, false, ◌==◌}

-- whether bit i of a number is set
abbrev pub bit : ℕ → ℕ → Bool
bit bits i = bits / 2 ^ i % 2 == 1

-- the length is from 1 to 32 steps
abbrev pub LawfulLength : ℕ → Type 0
LawfulLength steps = (0 < steps) × (steps ≤ 32)

-- no bit at or above the length is set
abbrev pub Within : ℕ → ℕ → Type 0
Within bits steps = (i : ℕ) → steps ≤ i → bit bits i ≡ false

-- no bit is set
abbrev pub HasNoBit : ℕ → Type 0
HasNoBit bits = (i : ℕ) → bit bits i ≡ false

-- these bits and so many steps make a pattern
abbrev pub Lawful : ℕ → ℕ → Type 0
Lawful bits steps = LawfulLength steps × Within bits steps × (HasNoBit bits → ⊥)

-- whether a pattern is open at step t: bit (t mod length) is set
abbrev pub opens : ℕ → ℕ → ℕ → Bool
opens bits steps t = bit bits (t % steps)
