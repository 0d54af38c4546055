-- What a joining means.
use Rattle.std.specs.Prelude.{ℕ}

-- The empty element, the join of two values, what one mark at a position counts as, and the values that the words of J can hold:
-- the logic reads a word as any number, however large.
pub record Meaning (J : Type 0) : Type 1 where
  pub neutral : J
  pub joined : J → J → J
  pub single : ℕ → ℕ → J
  pub holds : J → Type 0
