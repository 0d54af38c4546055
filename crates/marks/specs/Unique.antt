-- What a property determines.
use Rattle.std.specs.Prelude.{◌≡◌}

-- The one value that has a property.
pub record TheOne {X : Type 0} (Has : X → Type 0) (x : X) : Type 0 where
  pub has : Has x
  pub only : (y : X) → Has y → y ≡ x
