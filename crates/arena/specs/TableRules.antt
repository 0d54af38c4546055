-- The table rules: what a mark and a move word must be, by a look at the moves of one place.
use Rattle.std.specs.Prelude.{◌≡◌, ℕ, suc, ◌<◌, ◌≤◌, Bool, true, false, T}
use Rattle.arena.specs.declared.player.Player.TheVariants.{Pursuer, Runner}
use Rattle.arena.specs.Game.{Rules, degree, move, caught}
use Rattle.marks.specs.Marks.{never, none}

-- the rules at the place p, for the marks μ and the move words w
pub record RulesAt (R : Rules) (μ w : ℕ → ℕ) (p : ℕ) : Type 0 where
  -- where the runner is caught: mark 0, no move
  pub over : caught R p ≡ true → μ p ≡ 0
  pub idle : caught R p ≡ true → w p ≡ none
  -- elsewhere: a mark of 1 or more, and a move that there is
  pub positive : caught R p ≡ false → 0 < μ p
  pub named : caught R p ≡ false → w p < degree R p
  -- a pursuer's count k: the chosen place has k - 1, and none has less
  pub pursuer_count : caught R p ≡ false → R.owner p ≡ Pursuer → μ p < never
      → (μ p ≡ suc (μ (move R p (w p)))) × ((i : ℕ) → i < degree R p → μ p ≤ suc (μ (move R p i)))
  -- a runner's count k: the chosen place has k - 1, and none has more
  pub runner_count : caught R p ≡ false → R.owner p ≡ Runner → μ p < never
      → (μ p ≡ suc (μ (move R p (w p)))) × ((i : ℕ) → i < degree R p → suc (μ (move R p i)) ≤ μ p)
  -- never: all of the pursuer's places are never, and the runner's chosen one
  pub pursuer_never : caught R p ≡ false → R.owner p ≡ Pursuer → never ≤ μ p → (i : ℕ) → i < degree R p → never ≤ μ (move R p i)
  pub runner_never : caught R p ≡ false → R.owner p ≡ Runner → never ≤ μ p → never ≤ μ (move R p (w p))

-- the rules at every place of D
abbrev pub TableRules : Rules → (ℕ → Bool) → (ℕ → ℕ) → (ℕ → ℕ) → Type 0
TableRules R D μ w = (p : ℕ) → T (D p) → RulesAt R μ w p
