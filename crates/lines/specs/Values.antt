-- What the fields of a line mean.
use Rattle.std.specs.Prelude.{◌≡◌, ℕ, ◌+◌, ◌-◌, ◌*◌, ◌/◌, ◌%◌, ◌^◌, ◌<◌, min, cond, List, [], ◌∷◌, map, length, take, ◌==◌, slice_index}
use Rattle.std.specs.Int.Digits.{number_from_digits}
use Rattle.lines.specs.Grammar.{Number, Pattern, FieldOf}

-- the number that digits write, each byte b as b - 48
abbrev pub decimal : List ℕ → ℕ
decimal f = number_from_digits 10 (map (λ b. b - 48) f)

-- the bit of a pattern's character: 1 for the character 1, byte 49
abbrev pub bit : ℕ → ℕ
bit b = cond (b == 49) 1 0

-- the bits of a pattern, that of its first character the lowest
abbrev pub bits : List ℕ → ℕ
bits [] = 0
bits (b ∷ p) = bit b + 2 * bits p

-- r is the number of a text: exactly that of a number's field, and of any other text as far as 16 bits go
pub record Numbered (f : List ℕ) (r : ℕ) : Type 0 where
  pub any : r ≡ min (decimal f) 65535
  pub field : FieldOf Number f → r ≡ decimal f

-- r is the bits of a text: of its first 32 characters, so of all those of a pattern's field
pub record Stepped (p : List ℕ) (r : ℕ) : Type 0 where
  pub any : r ≡ bits (take 32 p)
  pub field : FieldOf Pattern p → r ≡ bits p
  pub below : r < 2 ^ length p
  pub opens : (i : ℕ) → i < 32 → i < length p → slice_index p i ≡ 49 → r / 2 ^ i % 2 ≡ 1
  pub shuts : (i : ℕ) → i < 32 → i < length p → r / 2 ^ i % 2 ≡ 1 → slice_index p i ≡ 49
