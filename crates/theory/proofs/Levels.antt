-- Marks by levels and the local rules.
use Rattle.std.proofs.Common.{◌≡◌, ℕ, zero, suc, ◌<◌, ◌≤◌, Bool, true, false, T, ◌⊎◌, sym, refl, subst, inl, inr, arith}
use native.Mathlib.Decide.{dec_lt, dec_le}
use Rattle.arena.specs.declared.player.Player.TheVariants.{Pursuer, Runner}
use Rattle.arena.specs.Game.{Rules, degree, move, caught}
use Rattle.marks.specs.Marks.{never, none}
use Rattle.arena.specs.Claims.{Closed}
use Rattle.arena.specs.TableRules.{TableRules}
use Rattle.arena.specs.Levels.{Grows, Level, ByLevels, CountsAttractor, Nonstop}
use Rattle.theory.proofs.Plays.{sides, tests, not_both, not_clash}

-- the first n indices: one at which f is at least k, or none
find : (f : ℕ → ℕ) (k n : ℕ) → ((i : ℕ) × (i < n) × (k ≤ f i)) ⊎ ((i : ℕ) → i < n → f i < k)
find f k zero = inr (λ i h. absurd (omega arith))
find f k (suc n) =
    elim (find f k n) [
      | inl y ↦ inl (y.0, omega (arith, y.1), y.2)
      | inr none_yet ↦ elim (dec_le k (f n)) [
        | yes y ↦ inl (n, omega arith, y)
        | no z ↦ inr (λ i h. elim (dec_lt i n) [
          | yes l ↦ none_yet i l
          | no g ↦ let e : i ≡ n = omega arith in subst (λ (j : ℕ). f j < k) (sym e) (omega arith)
        ])
      ]
    ]

pub level_mono : (R : Rules) (i k p : ℕ) → Level R k p → k ≤ i → Level R i p
level_mono R zero k p l h = let e : k ≡ 0 = omega arith in subst (λ (n : ℕ). Level R n p) e l
level_mono R (suc i) k p l h =
    elim (dec_le k i) [
      | yes y ↦ inl (level_mono R i k p l y)
      | no z ↦ let e : k ≡ suc i = omega arith in subst (λ (n : ℕ). Level R n p) e l
    ]

module _ (R : Rules) (D : ℕ → Bool) (μ w : ℕ → ℕ) (closed : Closed R D) (rules : TableRules R D μ w) where
  within : (i p : ℕ) → T (D p) → Level R i p → (μ p ≤ i) × (μ p < never)
  within zero p d l = let a : μ p ≡ 0 = (rules p d).over l in (omega arith, omega arith)
  within (suc i) p d (inl l) = let a = within i p d l in (omega (arith, a.0), a.1)
  within (suc i) p d (inr (inl g)) =
      elim (tests (caught R p)) [
        | inl c ↦ let a : μ p ≡ 0 = (rules p d).over c in (omega arith, omega arith)
        | inr c ↦
            let j = g.1.0 in
            let k = within i (move R p j) (closed p d c j g.1.1) g.1.2 in
            elim (dec_lt (μ p) never) [
              | yes y ↦ let a : μ p ≤ suc (μ (move R p j)) = ((rules p d).pursuer_count c g.0 y).1 j g.1.1 in (omega (arith, k.0), y)
              | no z ↦ let a : never ≤ μ (move R p j) = (rules p d).pursuer_never c g.0 (omega arith) j g.1.1 in absurd (omega (arith, k.1))
            ]
      ]
  within (suc i) p d (inr (inr g)) =
      elim (tests (caught R p)) [
        | inl c ↦ let a : μ p ≡ 0 = (rules p d).over c in (omega arith, omega arith)
        | inr c ↦
            let j = w p in
            let lt : w p < degree R p = (rules p d).named c in
            let k = within i (move R p j) (closed p d c j lt) (g.1 j lt) in
            elim (dec_lt (μ p) never) [
              | yes y ↦ let a : μ p ≡ suc (μ (move R p j)) = ((rules p d).runner_count c g.0 y).0 in (omega (arith, k.0), y)
              | no z ↦ let a : never ≤ μ (move R p j) = (rules p d).runner_never c g.0 (omega arith) in absurd (omega (arith, k.1))
            ]
      ]

  reaches : (i p : ℕ) → T (D p) → μ p < never → μ p ≤ i → Level R i p
  reaches zero p d n h =
      elim (tests (caught R p)) [
        | inl c ↦ c
        | inr c ↦ let a : 0 < μ p = (rules p d).positive c in absurd (omega arith)
      ]
  reaches (suc i) p d n h =
      elim (tests (caught R p)) [
        | inl c ↦ inl (reaches i p d n (let a : μ p ≡ 0 = (rules p d).over c in omega arith))
        | inr c ↦ inr (elim (sides (R.owner p)) [
          | inl e ↦
              let lt : w p < degree R p = (rules p d).named c in
              let a : μ p ≡ suc (μ (move R p (w p))) = ((rules p d).pursuer_count c e n).0 in
              inl (e, (w p, lt, reaches i (move R p (w p)) (closed p d c (w p) lt) (omega arith) (omega arith)))
          | inr e ↦
              inr (
                e,
                λ j lt.
                    let a : suc (μ (move R p j)) ≤ μ p = ((rules p d).runner_count c e n).1 j lt in
                    reaches i (move R p j) (closed p d c j lt) (omega arith) (omega arith),
              )
        ])
      ]

  pub by_levels : ByLevels R D μ
  by_levels = record {
    count = λ p d n. (reaches (μ p) p d n (omega arith), λ i h l. omega (arith, (within i p d l).0));
    none_holds = λ p d n i l. omega (arith, (within i p d l).1);
  }

module _ (R : Rules) (D : ℕ → Bool) (μ : ℕ → ℕ) (closed : Closed R D) (nonstop : Nonstop R D) (levels : ByLevels R D μ) where
  first : (i p : ℕ) → T (D p) → Level R i p → (μ p ≤ i) × (μ p < never)
  first i p d l =
      elim (dec_lt (μ p) never) [
        | yes y ↦ (elim (dec_le (μ p) i) [ yes h ↦ h | no z ↦ absurd ((levels.count p d y).1 i (omega arith) l) ], y)
        | no z ↦ absurd (levels.none_holds p d (omega arith) i l)
      ]

  holds : (i p : ℕ) → T (D p) → μ p < never → μ p ≤ i → Level R i p
  holds i p d n h = level_mono R i (μ p) p (levels.count p d n).0 h

  over : (p : ℕ) → T (D p) → caught R p ≡ true → μ p ≡ 0
  over p d c = omega (arith, (first 0 p d c).0)

  -- a count is made by the level before
  made_by : (k p : ℕ) → T (D p) → caught R p ≡ false → μ p < never → μ p ≡ k → Level R k p → (j : ℕ) × (μ p ≡ suc j) × Grows R (λ q. Level R j q) p
  made_by zero p d c n e l = absurd (not_clash (caught R p) l c)
  made_by (suc j) p d c n e (inl l) = absurd ((levels.count p d n).1 j (omega arith) l)
  made_by (suc j) p d c n e (inr g) = (j, e, g)

  grown : (p : ℕ) → T (D p) → caught R p ≡ false → μ p < never → (j : ℕ) × (μ p ≡ suc j) × Grows R (λ q. Level R j q) p
  grown p d c n = made_by (μ p) p d c n refl (levels.count p d n).0

  positive : (p : ℕ) → T (D p) → caught R p ≡ false → 0 < μ p
  positive p d c = elim (dec_lt (μ p) never) [ yes y ↦ omega (arith, (grown p d c y).1) | no z ↦ omega arith ]

  -- a pursuer's move
  pursuer_all : (p : ℕ) → T (D p) → caught R p ≡ false → R.owner p ≡ Pursuer → (i : ℕ) → i < degree R p → (μ (move R p i) < never → (μ p ≤ suc (μ (move R p i))) × (μ p < never))
  pursuer_all p d c e i lt n =
      first (suc (μ (move R p i))) p d (inr (inl (e, (i, lt, holds (μ (move R p i)) (move R p i) (closed p d c i lt) n (omega arith)))))

  -- a runner's place all of whose moves are below k is in the level k
  runner_all : (k p : ℕ) → T (D p) → caught R p ≡ false → R.owner p ≡ Runner → k ≤ never → ((i : ℕ) → i < degree R p → μ (move R p i) < k) → (μ p ≤ k) × (μ p < never)
  runner_all zero p d c e n all = let lt : 0 < degree R p = nonstop p d c in absurd (omega (arith, all 0 lt))
  runner_all (suc j) p d c e n all =
      first (suc j) p d (inr (inr (e, λ i lt. let a : μ (move R p i) < suc j = all i lt in holds j (move R p i) (closed p d c i lt) (omega arith) (omega arith))))

  abbrev Good : ℕ → ℕ → Type 0
  Good p i = (i < degree R p) × (μ p < never → μ p ≡ suc (μ (move R p i))) × (R.owner p ≡ Runner → never ≤ μ p → never ≤ μ (move R p i))

  runner_good : (p : ℕ) → T (D p) → caught R p ≡ false → R.owner p ≡ Runner → (i : ℕ) × Good p i
  runner_good p d c e =
      elim (dec_lt (μ p) never) [
        | yes n ↦
            let (j, ej, g) = grown p d c n in
            elim g [
              | inl f ↦ absurd (not_both (R.owner p) f.0 e)
              | inr f ↦ elim (find (λ i. μ (move R p i)) j (degree R p)) [
                | inl y ↦
                    let i = y.0 in
                    let a : j ≤ μ (move R p i) = y.2 in
                    let b : μ (move R p i) ≤ j = (first j (move R p i) (closed p d c i y.1) (f.1 i y.1)).0 in
                    (i, (y.1, (λ _. omega arith), (λ _ z. absurd (omega arith))))
                | inr below ↦ let a : μ p ≤ j = (runner_all j p d c e (omega arith) below).0 in absurd (omega arith)
              ]
            ]
        | no n ↦ elim (find (λ i. μ (move R p i)) never (degree R p)) [
          | inl y ↦ (y.0, (y.1, (λ z. absurd (n z)), (λ _ _. y.2)))
          | inr below ↦ absurd (n (runner_all never p d c e (omega arith) below).1)
        ]
      ]

  pursuer_good : (p : ℕ) → T (D p) → caught R p ≡ false → R.owner p ≡ Pursuer → (i : ℕ) × Good p i
  pursuer_good p d c e =
      elim (dec_lt (μ p) never) [
        | yes n ↦
            let (j, ej, g) = grown p d c n in
            elim g [
              | inl f ↦
                  let i = f.1.0 in
                  let lt : i < degree R p = f.1.1 in
                  let a = first j (move R p i) (closed p d c i lt) f.1.2 in
                  let b = pursuer_all p d c e i lt a.1 in
                  (i, (lt, (λ _. omega (arith, a.0, b.0)), (λ r. absurd (not_both (R.owner p) e r))))
              | inr f ↦ absurd (not_both (R.owner p) e f.0)
            ]
        | no n ↦ (0, (nonstop p d c, (λ z. absurd (n z)), (λ r. absurd (not_both (R.owner p) e r))))
      ]

  -- a word for each number: none where the runner is caught, and good at each other place of D
  Chosen : ℕ → ℕ → Type 0
  Chosen p i = T (D p) → (caught R p ≡ true → i ≡ none) × (caught R p ≡ false → Good p i)

  choice : (p : ℕ) → (i : ℕ) × Chosen p i
  unfolding Chosen
  choice p =
      elim (tests (D p)) [
        | inl y ↦ elim (tests (caught R p)) [
          | inl c ↦ (none, λ d. ((λ _. refl), (λ f. absurd (not_clash (caught R p) c f))))
          | inr c ↦
              let d : T (D p) = subst T (sym y) tt in
              let k : (i : ℕ) × Good p i = elim (sides (R.owner p)) [ inl e ↦ pursuer_good p d c e | inr e ↦ runner_good p d c e ] in
              (k.0, λ _. ((λ f. absurd (not_clash (caught R p) f c)), (λ _. k.1)))
        ]
        | inr z ↦ (0, λ d. absurd (subst T z d))
      ]

  chosen : ℕ → ℕ
  chosen p = (choice p).0

  good : (p : ℕ) → T (D p) → caught R p ≡ false → Good p (chosen p)
  unfolding chosen Chosen
  good p d c = ((choice p).1 d).1 c

  none_chosen : (p : ℕ) → T (D p) → caught R p ≡ true → chosen p ≡ none
  unfolding chosen Chosen
  none_chosen p d c = ((choice p).1 d).0 c

  pub local : (w : ℕ → ℕ) × TableRules R D μ w
  local = (
    chosen,
    λ p d. record {
      over = over p d;
      idle = none_chosen p d;
      positive = positive p d;
      named = λ c. (good p d c).0;
      pursuer_count = λ c e n. ((good p d c).1 n, λ i lt. elim (dec_lt (μ (move R p i)) never) [ yes y ↦ (pursuer_all p d c e i lt y).0 | no z ↦ omega arith ]);
      runner_count = λ c e n. (
        (good p d c).1 n,
        λ i lt.
            let (j, ej, g) = grown p d c n in
            elim g [
              | inl f ↦ absurd (not_both (R.owner p) f.0 e)
              | inr f ↦ omega (arith, (first j (move R p i) (closed p d c i lt) (f.1 i lt)).0)
            ],
      );
      pursuer_never = λ c e n i lt. elim (dec_le never (μ (move R p i))) [ yes y ↦ y | no z ↦ let a : μ p < never = (pursuer_all p d c e i lt (omega arith)).1 in absurd (omega arith) ];
      runner_never = λ c e n. (good p d c).2 e n;
    },
  )

-- the counts are exactly the attractor
pub attractor : (R : Rules) (D : ℕ → Bool) (μ : ℕ → ℕ) → ByLevels R D μ → CountsAttractor R D μ
attractor R D μ levels p d = (
  (λ n. (μ p, (levels.count p d n).0)),
  (λ (i, l). elim (dec_lt (μ p) never) [ yes y ↦ y | no z ↦ absurd (levels.none_holds p d (omega arith) i l) ]),
)
