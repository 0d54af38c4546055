-- A finite arena has marks by levels.
use Rattle.std.proofs.Common.{◌≡◌, ℕ, zero, suc, ◌<◌, ◌≤◌, false, ltb, ◌⊎◌, refl, subst, inl, inr, arith, ltb→lt, lt→ltb}
use native.Mathlib.Decide.{dec_lt}
use Rattle.arena.specs.Game.{Rules, degree, move, caught}
use Rattle.marks.specs.Marks.{never}
use Rattle.arena.specs.Claims.{Closed}
use Rattle.arena.specs.Levels.{Level, First, ByLevels}
use Rattle.theory.proofs.Plays.{sides, tests, not_both, not_clash}
use Rattle.theory.proofs.Levels.{level_mono}
use Rattle.theory.proofs.Sums.{sum, sum_lt, sum_bound}

module _ (P : ℕ → Type 0) (dec : (i : ℕ) → Dec (P i)) where
  some_or_none : (n : ℕ) → ((i : ℕ) × (i < n) × P i) ⊎ ((i : ℕ) → i < n → P i → ⊥)
  some_or_none zero = inr (λ i h. absurd (omega arith))
  some_or_none (suc n) =
      elim (some_or_none n) [
        | inl y ↦ inl (y.0, omega (arith, y.1), y.2)
        | inr none_yet ↦ elim (dec n) [
          | yes y ↦ inl (n, omega arith, y)
          | no z ↦ inr (λ i h x. elim (dec_lt i n) [
            | yes l ↦ none_yet i l x
            | no g ↦ let e : i ≡ n = omega arith in z (subst P e x)
          ])
        ]
      ]

  weight : ℕ → ℕ
  weight i = elim (dec i) [ yes y ↦ 1 | no z ↦ 0 ]

dec_not : {A : Type 0} → Dec A → Dec (A → ⊥)
dec_not (yes a) = no (λ f. f a)
dec_not (no f) = yes f

-- a place that the one has and the other lacks
dec_more : {A B : Type 0} → Dec A → Dec B → Dec (A × (B → ⊥))
dec_more (yes a) (yes b) = no (λ f. f.1 b)
dec_more (yes a) (no f) = yes (a, f)
dec_more (no f) b = no (λ g. f g.0)

known : {A : Type 0} → Dec A → ((A → ⊥) → ⊥) → A
known (yes a) f = a
known (no z) f = absurd (f z)

module _ {P : ℕ → Type 0} (dec : (i : ℕ) → Dec (P i)) where
  weight_yes : (i : ℕ) → P i → weight P dec i ≡ 1
  unfolding weight
  weight_yes i x = go (dec i)
    where
      go : (d : Dec (P i)) → ◌≡◌ {A = ℕ} (elim d as (λ _. ℕ) [ yes y ↦ 1 | no z ↦ 0 ]) 1
      go (yes y) = refl
      go (no z) = absurd (z x)

  weight_no : (i : ℕ) → (P i → ⊥) → weight P dec i ≡ 0
  unfolding weight
  weight_no i f = go (dec i)
    where
      go : (d : Dec (P i)) → ◌≡◌ {A = ℕ} (elim d as (λ _. ℕ) [ yes y ↦ 1 | no z ↦ 0 ]) 0
      go (yes y) = absurd (f y)
      go (no z) = refl

  weight_most : (i : ℕ) → weight P dec i ≤ 1
  weight_most i = elim (dec i) [ yes y ↦ omega (arith, weight_yes i y) | no z ↦ omega (arith, weight_no i z) ]

module _ (R : Rules) where
  dec_level : (i p : ℕ) → Dec (Level R i p)
  dec_level zero p = elim (tests (caught R p)) [ inl c ↦ yes c | inr c ↦ no (λ t. not_clash (caught R p) t c) ]
  dec_level (suc i) p =
      elim (dec_level i p) [
        | yes y ↦ yes (inl y)
        | no z ↦ elim (sides (R.owner p)) [
          | inl e ↦ elim (some_or_none (λ j. Level R i (move R p j)) (λ j. dec_level i (move R p j)) (degree R p)) [
            | inl y ↦ yes (inr (inl (e, y)))
            | inr none_in ↦ no (λ l. elim l [
              | inl y ↦ z y
              | inr g ↦ elim g [ inl f ↦ none_in f.1.0 f.1.1 f.1.2 | inr f ↦ not_both (R.owner p) e f.0 ]
            ])
          ]
          | inr e ↦ elim (some_or_none (λ j. Level R i (move R p j) → ⊥) (λ j. dec_not (dec_level i (move R p j))) (degree R p)) [
            | inl y ↦ no (λ l. elim l [
              | inl x ↦ z x
              | inr g ↦ elim g [ inl f ↦ not_both (R.owner p) f.0 e | inr f ↦ y.2 (f.1 y.0 y.1) ]
            ])
            | inr all_in ↦ yes (inr (inr (e, λ j lt. known (dec_level i (move R p j)) (all_in j lt))))
          ]
        ]
      ]

  first_at : (t p : ℕ) → Level R t p → (k : ℕ) × (k ≤ t) × First R p k
  first_at zero p l = (0, omega arith, (l, λ i h. absurd (omega arith)))
  first_at (suc t) p l =
      elim (dec_level t p) [
        | yes y ↦ let k = first_at t p y in (k.0, omega (arith, k.1), k.2)
        | no z ↦ (suc t, omega arith, (l, λ i h x. z (level_mono R t i p x (omega arith))))
      ]

  module _ (N : ℕ) (small : N < never) (closed : Closed R (λ p. ltb p N)) where
    Stable : ℕ → Type 0
    Stable s = (p : ℕ) → p < N → Level R (suc s) p → Level R s p

    held : ℕ → ℕ → ℕ
    held s p = weight (λ q. Level R s q) (λ q. dec_level s q) p

    held_grows : (s p : ℕ) → held s p ≤ held (suc s) p
    unfolding held
    held_grows s p =
        elim (dec_level s p) [
          | yes y ↦ omega (arith, weight_yes (λ q. dec_level s q) p y, weight_yes (λ q. dec_level (suc s) q) p (inl y))
          | no z ↦ omega (arith, weight_no (λ q. dec_level s q) p z)
        ]

    stable_or_more : (s : ℕ) → ((t : ℕ) × (t < s) × Stable t) ⊎ (s ≤ sum (held s) N)
    unfolding Stable held
    stable_or_more zero = inr (omega arith)
    stable_or_more (suc s) =
        elim (stable_or_more s) [
          | inl y ↦ inl (y.0, omega (arith, y.1), y.2)
          | inr more ↦ elim (some_or_none (λ p. Level R (suc s) p × (Level R s p → ⊥)) (λ p. dec_more (dec_level (suc s) p) (dec_level s p)) N) [
            | inl x ↦
                let a : held s x.0 ≡ 0 = weight_no (λ q. dec_level s q) x.0 x.2.1 in
                let b : held (suc s) x.0 ≡ 1 = weight_yes (λ q. dec_level (suc s) q) x.0 x.2.0 in
                inr (omega (arith, sum_lt (held s) (held (suc s)) (held_grows s) x.0 N x.1 (omega arith)))
            | inr same ↦ inl (s, omega arith, λ p lt l. known (dec_level s p) (λ z. same p lt (l, z)))
          ]
        ]

    stable : (t : ℕ) × (t ≤ N) × Stable t
    unfolding held
    stable =
        elim (stable_or_more (suc N)) [
          | inl y ↦ (y.0, omega (arith, y.1), y.2)
          | inr more ↦ absurd (omega (arith, sum_bound (held (suc N)) (λ i. weight_most (λ q. dec_level (suc N) q) i) N))
        ]

    within : (p : ℕ) → p < N → caught R p ≡ false → (j : ℕ) → j < degree R p → move R p j < N
    within p lt c j l = ltb→lt (move R p j) N (closed p (lt→ltb p N lt) c j l)

    settled : (t : ℕ) → Stable t → (i p : ℕ) → p < N → Level R i p → Level R t p
    unfolding Stable
    settled t st zero p lt l = level_mono R t zero p l (omega arith)
    settled t st (suc i) p lt (inl l) = settled t st i p lt l
    settled t st (suc i) p lt (inr (inl g)) =
        elim (tests (caught R p)) [
          | inl c ↦ level_mono R t zero p c (omega arith)
          | inr c ↦ st p lt (inr (inl (g.0, (g.1.0, g.1.1, settled t st i (move R p g.1.0) (within p lt c g.1.0 g.1.1) g.1.2))))
        ]
    settled t st (suc i) p lt (inr (inr g)) =
        elim (tests (caught R p)) [
          | inl c ↦ level_mono R t zero p c (omega arith)
          | inr c ↦ st p lt (inr (inr (g.0, λ j l. settled t st i (move R p j) (within p lt c j l) (g.1 j l))))
        ]

    -- m is the mark of p
    Marked : ℕ → ℕ → Type 0
    Marked p m = (m < never → First R p m) × (never ≤ m → (i : ℕ) → Level R i p → ⊥)

    marked_count : (p m : ℕ) → m < never → First R p m → Marked p m
    unfolding Marked
    marked_count p m n f = ((λ _. f), (λ z. absurd (omega arith)))

    marked_never : (p m : ℕ) → never ≤ m → ((i : ℕ) → Level R i p → ⊥) → Marked p m
    unfolding Marked
    marked_never p m n f = ((λ z. absurd (omega arith)), (λ _. f))

    choice : (p : ℕ) → (m : ℕ) × (p < N → Marked p m)
    choice p =
        let (t, le, st) = stable in
        elim (dec_level t p) [
          | yes y ↦ let k = first_at t p y in (k.0, λ _. marked_count p k.0 (omega (arith, k.1)) k.2)
          | no z ↦ (never, λ lt. marked_never p never (omega arith) (λ i l. z (settled t st i p lt l)))
        ]

    mark : ℕ → ℕ
    mark p = (choice p).0

    marked : (p : ℕ) → p < N → Marked p (mark p)
    unfolding mark
    marked p lt = (choice p).1 lt

    pub marks : (μ : ℕ → ℕ) × ByLevels R (λ p. ltb p N) μ
    unfolding Marked
    marks = (
      mark,
      record {
        count = λ p d n. (marked p (ltb→lt p N d)).0 n;
        none_holds = λ p d n. (marked p (ltb→lt p N d)).1 n;
      },
    )
