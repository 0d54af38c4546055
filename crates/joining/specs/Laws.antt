-- What every joining keeps.
use Rattle.std.specs.Prelude.{◌≡◌, ℕ}
use Rattle.joining.specs.Meaning.{Meaning}

-- The empty element is neutral on both sides of every value that words can hold, and join is associative.
-- Such values are the empty element, what any mark at any position counts as, and the join of two of them.
pub record Laws {J : Type 0} (meaning : Meaning J) : Type 0 where
  pub left : (x : J) → meaning.holds x → meaning.joined meaning.neutral x ≡ x
  pub right : (x : J) → meaning.holds x → meaning.joined x meaning.neutral ≡ x
  pub assoc : (x y z : J) → meaning.joined (meaning.joined x y) z ≡ meaning.joined x (meaning.joined y z)
  pub neutral_holds : meaning.holds meaning.neutral
  pub single_holds : (mark position : ℕ) → meaning.holds (meaning.single mark position)
  pub joined_holds : (x y : J) → meaning.holds x → meaning.holds y → meaning.holds (meaning.joined x y)
