-- Folding one game onto another.
use Rattle.std.specs.Prelude.{◌≡◌, ℕ, map}
use Rattle.arena.specs.Game.{Rules}

-- φ folds R' onto R: it keeps owners, captures and move lists
pub record Folds (R' R : Rules) (φ : ℕ → ℕ) : Type 0 where
  pub owners : (x : ℕ) → R'.owner x ≡ R.owner (φ x)
  pub captures : (x : ℕ) → R'.capture x ≡ R.capture (φ x)
  pub lists : (x : ℕ) → R.moves (φ x) ≡ map φ (R'.moves x)
