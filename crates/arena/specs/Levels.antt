-- The levels of a game: from which places the pursuer can force capture within i moves.
use Rattle.std.specs.Prelude.{◌≡◌, ℕ, zero, suc, ◌<◌, ◌≤◌, Bool, true, false, T, ◌⊎◌, ◌↔◌}
use Rattle.arena.specs.declared.player.Player.TheVariants.{Pursuer, Runner}
use Rattle.arena.specs.Game.{Rules, degree, move, caught}
use Rattle.marks.specs.Marks.{never}

-- p is added to a level L: a pursuer's place with some move into L, or a runner's place with all its moves into L
abbrev pub Grows : Rules → (ℕ → Type 0) → ℕ → Type 0
Grows R L p =
    ((R.owner p ≡ Pursuer) × ((i : ℕ) × (i < degree R p) × L (move R p i))) ⊎
    ((R.owner p ≡ Runner) × ((i : ℕ) → i < degree R p → L (move R p i)))

-- level 0 is where the runner is caught; each level has all of the one before it, and what is added to that
abbrev pub Level : Rules → ℕ → ℕ → Type 0
Level R zero p = caught R p ≡ true
Level R (suc i) p = Level R i p ⊎ Grows R (λ q. Level R i q) p

-- k is the first level that holds p
abbrev pub First : Rules → ℕ → ℕ → Type 0
First R p k = Level R k p × ((i : ℕ) → i < k → Level R i p → ⊥)

-- the attractor: the places that some level holds
abbrev pub Attracted : Rules → ℕ → Type 0
Attracted R p = (i : ℕ) × Level R i p

-- each mark is the first level that holds the place, and never if none does
pub record ByLevels (R : Rules) (D : ℕ → Bool) (μ : ℕ → ℕ) : Type 0 where
  pub count : (p : ℕ) → T (D p) → μ p < never → First R p (μ p)
  pub none_holds : (p : ℕ) → T (D p) → never ≤ μ p → (i : ℕ) → Level R i p → ⊥

-- the places whose mark is a count are exactly the attractor
abbrev pub CountsAttractor : Rules → (ℕ → Bool) → (ℕ → ℕ) → Type 0
CountsAttractor R D μ = (p : ℕ) → T (D p) → (μ p < never) ↔ Attracted R p

-- each place where the runner is not caught has a move
abbrev pub Nonstop : Rules → (ℕ → Bool) → Type 0
Nonstop R D = (p : ℕ) → T (D p) → caught R p ≡ false → 0 < degree R p
