-- Among N places, each count is below N: every smaller count is the mark of some place.
use Rattle.std.proofs.Common.{◌≡◌, ℕ, zero, suc, ◌<◌, ◌≤◌, cond, T, ltb, refl, inl, inr, arith, ltb→lt, lt→ltb}
use native.Mathlib.Decide.{dec_lt}
use Rattle.std.proofs.lemmas.Bool.Decides.{nat_tests}
use Rattle.arena.specs.Game.{Rules, move, caught}
use Rattle.marks.specs.Marks.{never}
use Rattle.arena.specs.Claims.{Closed}
use Rattle.arena.specs.TableRules.{TableRules}
use Rattle.theory.proofs.Plays.{sides, tests}
use Rattle.theory.proofs.Sums.{sum, sum_lt, sum_bound}

-- whether a number is below n, as 1 or 0
abbrev below : ℕ → ℕ → ℕ
below n m = cond (ltb m n) 1 0

below_grows : (n m : ℕ) → below n m ≤ below (suc n) m
below_grows n m = grind (arith, nat_tests)

below_more : (n m : ℕ) → m ≡ n → below n m < below (suc n) m
below_more n m e = grind (arith, nat_tests)

below_most : (n m : ℕ) → below n m ≤ 1
below_most n m = grind (arith, nat_tests)

module _ (N : ℕ) (μ : ℕ → ℕ) where
  -- if each number below n is the mark of some place, n of the places have marks below n
  taken : (n : ℕ) → ((j : ℕ) → j < n → (p : ℕ) × (p < N) × (μ p ≡ j)) → n ≤ sum (λ p. below n (μ p)) N
  taken zero each = omega arith
  taken (suc n) each =
      let (p, lt, e) = each n (omega arith) in
      let fewer = taken n (λ j h. each j (omega arith)) in
      let more = sum_lt (λ q. below n (μ q)) (λ q. below (suc n) (μ q)) (λ q. below_grows n (μ q)) p N lt (below_more n (μ p) e) in
      omega (arith, fewer, more)

  pigeonhole : (n : ℕ) → ((j : ℕ) → j < n → (p : ℕ) × (p < N) × (μ p ≡ j)) → n ≤ N
  pigeonhole n each = omega (arith, taken n each, sum_bound (λ p. below n (μ p)) (λ p. below_most n (μ p)) N)

module _ (R : Rules) (N : ℕ) (μ w : ℕ → ℕ) (closed : Closed R (λ p. ltb p N)) (rules : TableRules R (λ p. ltb p N) μ w) where
  -- a count above 0 leads to a place whose mark is one less
  lower : (p : ℕ) → p < N → μ p < never → 0 < μ p → (q : ℕ) × (q < N) × (μ p ≡ suc (μ q))
  lower p lt n pos =
      let d : T (ltb p N) = lt→ltb p N lt in
      elim (tests (caught R p)) [
        | inl c ↦ let z : μ p ≡ 0 = (rules p d).over c in absurd (omega arith)
        | inr c ↦
            let q = move R p (w p) in
            let inside : q < N = ltb→lt q N (closed p d c (w p) ((rules p d).named c)) in
            elim (sides (R.owner p)) [
              | inl e ↦ (q, inside, ((rules p d).pursuer_count c e n).0)
              | inr e ↦ (q, inside, ((rules p d).runner_count c e n).0)
            ]
      ]

  -- every number up to a count is a mark
  each_lower : (k p : ℕ) → p < N → μ p ≡ k → k < never → (j : ℕ) → j < suc k → (q : ℕ) × (q < N) × (μ q ≡ j)
  each_lower zero p lt e n j h = (p, lt, omega arith)
  each_lower (suc k) p lt e n j h =
      elim (dec_lt j (suc k)) [
        | yes y ↦ let (q, inside, f) = lower p lt (omega arith) (omega arith) in each_lower k q inside (omega arith) (omega arith) j y
        | no z ↦ (p, lt, omega arith)
      ]

  pub counts_below : (p : ℕ) → p < N → μ p < never → μ p < N
  counts_below p lt n = omega (arith, pigeonhole N μ (suc (μ p)) (each_lower (μ p) p lt refl n))
