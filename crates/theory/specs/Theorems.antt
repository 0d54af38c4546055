-- The theorems about games, each on the contract of a function of this crate.
use Rattle.std.specs.Prelude.{ℕ, ◌<◌, Bool, nat_lt}
use Rattle.arena.specs.Game.{Rules}
use Rattle.marks.specs.Marks.{never}
use Rattle.arena.specs.Claims.{Claims, Closed}
use Rattle.arena.specs.TableRules.{TableRules}
use Rattle.arena.specs.Levels.{ByLevels, CountsAttractor, Nonstop}
use Rattle.arena.specs.Labels.{Labelled}
use Rattle.arena.specs.Folds.{Folds}

-- a table that obeys the rules makes true claims
abbrev pub RulesGiveClaims : Type 0
RulesGiveClaims = (R : Rules) (D : ℕ → Bool) (μ w : ℕ → ℕ) → Closed R D → TableRules R D μ w → Claims R D μ w

-- a table whose claims are true obeys the rules
abbrev pub ClaimsGiveRules : Type 0
ClaimsGiveRules = (R : Rules) (D : ℕ → Bool) (μ w : ℕ → ℕ) → Closed R D → Claims R D μ w → TableRules R D μ w

-- the rules carry over to every game that folds onto this one
abbrev pub RulesFold : Type 0
RulesFold =
    (R' R : Rules) (φ : ℕ → ℕ) (D : ℕ → Bool) (μ w : ℕ → ℕ) → Folds R' R φ → Closed R D → TableRules R D μ w
    → TableRules R' (λ x. D (φ x)) (λ x. μ (φ x)) (λ x. w (φ x))

-- the claims carry over to every game that folds onto this one
abbrev pub ClaimsFold : Type 0
ClaimsFold =
    (R' R : Rules) (φ : ℕ → ℕ) (D : ℕ → Bool) (μ w : ℕ → ℕ) → Folds R' R φ → Closed R D → Claims R D μ w
    → Claims R' (λ x. D (φ x)) (λ x. μ (φ x)) (λ x. w (φ x))

-- marks by levels obey the rules, with some move words
abbrev pub LevelsGiveRules : Type 0
LevelsGiveRules = (R : Rules) (D : ℕ → Bool) (μ : ℕ → ℕ) → Closed R D → Nonstop R D → ByLevels R D μ → (w : ℕ → ℕ) × TableRules R D μ w

-- marks that obey the rules are by levels
abbrev pub RulesGiveLevels : Type 0
RulesGiveLevels = (R : Rules) (D : ℕ → Bool) (μ w : ℕ → ℕ) → Closed R D → TableRules R D μ w → ByLevels R D μ

-- marks that obey the rules are the labels
abbrev pub RulesGiveLabels : Type 0
RulesGiveLabels = (R : Rules) (D : ℕ → Bool) (μ w : ℕ → ℕ) → Closed R D → TableRules R D μ w → Labelled R D μ

-- of marks by levels, the counts are exactly the attractor
abbrev pub LevelsGiveAttractor : Type 0
LevelsGiveAttractor = (R : Rules) (D : ℕ → Bool) (μ : ℕ → ℕ) → ByLevels R D μ → CountsAttractor R D μ

-- among N places, marks by levels exist
abbrev pub MarksExist : Type 0
MarksExist = (R : Rules) (N : ℕ) → N < never → Closed R (λ p. nat_lt p N) → (μ : ℕ → ℕ) × ByLevels R (λ p. nat_lt p N) μ

-- among N places, each count is below N
abbrev pub CountsBelow : Type 0
CountsBelow =
    (R : Rules) (N : ℕ) (μ w : ℕ → ℕ) → Closed R (λ p. nat_lt p N) → TableRules R (λ p. nat_lt p N) μ w
    → (p : ℕ) → p < N → μ p < never → μ p < N
