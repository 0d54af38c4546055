-- The labels of the rounds are the marks.
use Rattle.std.proofs.Common.{◌≡◌, ℕ, zero, suc, ◌<◌, ◌≤◌, max, Bool, true, false, T, List, [], ◌∷◌, length, get_or, sym, refl, ap, ◌∙◌, subst, inl, inr, arith}
use mathlib.Core.Option.{Option, none, some}
use native.Mathlib.Decide.{dec_lt, dec_le}
use Rattle.arena.specs.declared.player.Player.TheVariants.{Pursuer, Runner}
use Rattle.arena.specs.Game.{Rules, degree, move, caught}
use Rattle.marks.specs.Marks.{never}
use Rattle.arena.specs.Claims.{Closed}
use Rattle.arena.specs.TableRules.{TableRules}
use Rattle.arena.specs.Labels.{lesser, greater, least_of, greatest_of, one_more, wanted, label, Labelled}
use Rattle.theory.proofs.Plays.{sides, tests}

abbrev AtLeast : ℕ → Option ℕ → Type 0
AtLeast k none = Unit {0}
AtLeast k (some n) = k ≤ n

abbrev AtMost : ℕ → Option ℕ → Type 0
AtMost k none = ⊥
AtMost k (some n) = n ≤ k

lesser_at_least : (k : ℕ) (a b : Option ℕ) → AtLeast k a → AtLeast k b → AtLeast k (lesser a b)
lesser_at_least k none b ha hb = hb
lesser_at_least k (some m) none ha hb = ha
lesser_at_least k (some m) (some n) ha hb = omega arith

lesser_left : (k : ℕ) (a b : Option ℕ) → a ≡ some k → AtLeast k b → lesser a b ≡ some k
lesser_left k a none e hb = rw e refl
lesser_left k a (some n) e hb = rw e (ap some (omega arith))

lesser_right : (k : ℕ) (a b : Option ℕ) → AtLeast k a → b ≡ some k → lesser a b ≡ some k
lesser_right k none b ha e = e
lesser_right k (some m) b ha e = rw e (ap some (omega arith))

greater_at_most : (k : ℕ) (a b : Option ℕ) → AtMost k a → AtMost k b → AtMost k (greater a b)
greater_at_most k none b ha hb = ha
greater_at_most k (some m) none ha hb = hb
greater_at_most k (some m) (some n) ha hb = omega arith

greater_left : (k : ℕ) (a b : Option ℕ) → a ≡ some k → AtMost k b → greater a b ≡ some k
greater_left k a none e hb = absurd hb
greater_left k a (some n) e hb = rw e (ap some (omega arith))

greater_right : (k : ℕ) (a b : Option ℕ) → AtMost k a → b ≡ some k → greater a b ≡ some k
greater_right k none b ha e = absurd ha
greater_right k (some m) b ha e = rw e (ap some (omega arith))

greater_none : (a : Option ℕ) → greater a none ≡ none
greater_none none = refl
greater_none (some m) = refl

least_at_least : (f : ℕ → Option ℕ) (k : ℕ) (l : List ℕ) → ((i : ℕ) → i < length l → AtLeast k (f (get_or l i 0))) → AtLeast k (least_of f l)
least_at_least f k [] all = tt
least_at_least f k (x ∷ l) all = lesser_at_least k (f x) (least_of f l) (all 0 (omega arith)) (least_at_least f k l (λ i h. all (suc i) (omega arith)))

least_is : (f : ℕ → Option ℕ) (k : ℕ) (l : List ℕ) (i : ℕ) → i < length l → f (get_or l i 0) ≡ some k → ((j : ℕ) → j < length l → AtLeast k (f (get_or l j 0))) → least_of f l ≡ some k
least_is f k [] i h e all = absurd (omega arith)
least_is f k (x ∷ l) zero h e all = lesser_left k (f x) (least_of f l) e (least_at_least f k l (λ j g. all (suc j) (omega arith)))
least_is f k (x ∷ l) (suc i) h e all = lesser_right k (f x) (least_of f l) (all 0 (omega arith)) (least_is f k l i (omega arith) e (λ j g. all (suc j) (omega arith)))

least_none : (f : ℕ → Option ℕ) (l : List ℕ) → ((i : ℕ) → i < length l → f (get_or l i 0) ≡ none) → least_of f l ≡ none
least_none f [] all = refl
least_none f (x ∷ l) all = rw (all 0 (omega arith)) (least_none f l (λ i h. all (suc i) (omega arith)))

greatest_at_most : (f : ℕ → Option ℕ) (k : ℕ) (l : List ℕ) → ((i : ℕ) → i < length l → AtMost k (f (get_or l i 0))) → AtMost k (greatest_of f l)
greatest_at_most f k [] all = omega arith
greatest_at_most f k (x ∷ l) all = greater_at_most k (f x) (greatest_of f l) (all 0 (omega arith)) (greatest_at_most f k l (λ i h. all (suc i) (omega arith)))

greatest_is : (f : ℕ → Option ℕ) (k : ℕ) (l : List ℕ) (i : ℕ) → i < length l → f (get_or l i 0) ≡ some k → ((j : ℕ) → j < length l → AtMost k (f (get_or l j 0))) → greatest_of f l ≡ some k
greatest_is f k [] i h e all = absurd (omega arith)
greatest_is f k (x ∷ l) zero h e all = greater_left k (f x) (greatest_of f l) e (greatest_at_most f k l (λ j g. all (suc j) (omega arith)))
greatest_is f k (x ∷ l) (suc i) h e all = greater_right k (f x) (greatest_of f l) (all 0 (omega arith)) (greatest_is f k l i (omega arith) e (λ j g. all (suc j) (omega arith)))

greatest_none : (f : ℕ → Option ℕ) (l : List ℕ) (i : ℕ) → i < length l → f (get_or l i 0) ≡ none → greatest_of f l ≡ none
greatest_none f [] i h e = absurd (omega arith)
greatest_none f (x ∷ l) zero h e = rw e refl
greatest_none f (x ∷ l) (suc i) h e = rw (greatest_none f l i (omega arith) e) (greater_none (f x))

abbrev IsSome : Option ℕ → Type 0
IsSome none = ⊥
IsSome (some n) = Unit {0}

abbrev value : Option ℕ → ℕ
value none = 0
value (some n) = n

clash : (o : Option ℕ) (k : ℕ) → o ≡ some k → o ≡ none → ⊥
clash o k e f = subst IsSome (sym e ∙ f) tt

module _ (R : Rules) (D : ℕ → Bool) (μ w : ℕ → ℕ) (closed : Closed R D) (rules : TableRules R D μ w) where
  -- what the round m says of p
  Reads : ℕ → ℕ → Type 0
  Reads m p = (μ p < never → μ p ≤ m → label R m p ≡ some (μ p)) × ((μ p < never → m < μ p) → label R m p ≡ none)

  open_label : (m p : ℕ) → caught R p ≡ false → label R (suc m) p ≡ one_more (wanted (R.owner p) (λ q. label R m q) (R.moves p))
  open_label m p c = rw c refl

  pursuer_label : (m p : ℕ) → caught R p ≡ false → R.owner p ≡ Pursuer → label R (suc m) p ≡ one_more (least_of (λ q. label R m q) (R.moves p))
  pursuer_label m p c e = rw (c, e) refl

  runner_label : (m p : ℕ) → caught R p ≡ false → R.owner p ≡ Runner → label R (suc m) p ≡ one_more (greatest_of (λ q. label R m q) (R.moves p))
  runner_label m p c e = rw (c, e) refl

  at_least : (m k q : ℕ) → Reads m q → k ≤ μ q → AtLeast k (label R m q)
  unfolding Reads
  at_least m k q r h =
      elim (dec_lt (μ q) never) [
        | yes y ↦ elim (dec_le (μ q) m) [
          | yes z ↦ rw (r.0 y z) h
          | no z ↦ rw (r.1 (λ _. omega arith)) tt
        ]
        | no z ↦ rw (r.1 (λ y. absurd (z y))) tt
      ]

  at_most : (m k q : ℕ) → Reads m q → μ q < never → μ q ≤ k → k ≤ m → AtMost k (label R m q)
  unfolding Reads
  at_most m k q r n h g = rw (r.0 n (omega arith)) h

  captured : (m p : ℕ) → T (D p) → caught R p ≡ true → label R m p ≡ some 0 → Reads m p
  unfolding Reads
  captured m p d c e =
      let z : μ p ≡ 0 = (rules p d).over c in
      ((λ n h. e ∙ ap some (omega arith)), (λ f. let a : m < μ p = f (omega arith) in absurd (omega arith)))

  captured_label : (m p : ℕ) → caught R p ≡ true → label R m p ≡ some 0
  captured_label zero p c = rw c refl
  captured_label (suc m) p c = rw c refl

  pursuer_reads : (m p : ℕ) → T (D p) → caught R p ≡ false → R.owner p ≡ Pursuer → ((i : ℕ) → i < degree R p → Reads m (move R p i)) → Reads (suc m) p
  unfolding Reads
  pursuer_reads m p d c e ih =
      let f : ℕ → Option ℕ = λ q. label R m q in
      let lt : w p < degree R p = (rules p d).named c in (
        (λ n h.
            let k = (rules p d).pursuer_count c e n in
            let q = move R p (w p) in
            let a : μ p ≡ suc (μ q) = k.0 in
            let least : least_of f (R.moves p) ≡ some (μ q) =
            least_is f (μ q) (R.moves p) (w p) lt ((ih (w p) lt).0 (omega arith) (omega arith))
            (λ j g. let b : μ p ≤ suc (μ (move R p j)) = k.1 j g in at_least m (μ q) (move R p j) (ih j g) (omega arith)) in
            pursuer_label m p c e ∙ ap one_more least ∙ ap some (sym a)),
        (λ late.
            let least : least_of f (R.moves p) ≡ none =
            least_none f (R.moves p) (λ j g. (ih j g).1 (λ y.
            elim (dec_lt (μ p) never) [
              | yes n ↦ let b : μ p ≤ suc (μ (move R p j)) = ((rules p d).pursuer_count c e n).1 j g in let l : suc m < μ p = late n in omega arith
              | no z ↦ let b : never ≤ μ (move R p j) = (rules p d).pursuer_never c e (omega arith) j g in absurd (omega arith)
            ])) in
            pursuer_label m p c e ∙ ap one_more least),
      )

  runner_reads : (m p : ℕ) → T (D p) → caught R p ≡ false → R.owner p ≡ Runner → ((i : ℕ) → i < degree R p → Reads m (move R p i)) → Reads (suc m) p
  unfolding Reads
  runner_reads m p d c e ih =
      let f : ℕ → Option ℕ = λ q. label R m q in
      let lt : w p < degree R p = (rules p d).named c in
      let q = move R p (w p) in (
        (λ n h.
            let k = (rules p d).runner_count c e n in
            let a : μ p ≡ suc (μ q) = k.0 in
            let most : greatest_of f (R.moves p) ≡ some (μ q) =
            greatest_is f (μ q) (R.moves p) (w p) lt ((ih (w p) lt).0 (omega arith) (omega arith))
            (λ j g. let b : suc (μ (move R p j)) ≤ μ p = k.1 j g in at_most m (μ q) (move R p j) (ih j g) (omega arith) (omega arith) (omega arith)) in
            runner_label m p c e ∙ ap one_more most ∙ ap some (sym a)),
        (λ late.
            let most : greatest_of f (R.moves p) ≡ none =
            greatest_none f (R.moves p) (w p) lt ((ih (w p) lt).1 (λ y.
            elim (dec_lt (μ p) never) [
              | yes n ↦ let b : μ p ≡ suc (μ q) = ((rules p d).runner_count c e n).0 in let l : suc m < μ p = late n in omega arith
              | no z ↦ let b : never ≤ μ q = (rules p d).runner_never c e (omega arith) in absurd (omega arith)
            ])) in
            runner_label m p c e ∙ ap one_more most),
      )

  start : (p : ℕ) → T (D p) → caught R p ≡ false → Reads zero p
  unfolding Reads
  start p d c =
      let a : 0 < μ p = (rules p d).positive c in
      ((λ n h. absurd (omega arith)), (λ _. rw c refl))

  reads : (m p : ℕ) → T (D p) → Reads m p
  reads zero p d = elim (tests (caught R p)) [ inl c ↦ captured zero p d c (captured_label zero p c) | inr c ↦ start p d c ]
  reads (suc m) p d =
      elim (tests (caught R p)) [
        | inl c ↦ captured (suc m) p d c (captured_label (suc m) p c)
        | inr c ↦ elim (sides (R.owner p)) [
          | inl e ↦ pursuer_reads m p d c e (λ i lt. reads m (move R p i) (closed p d c i lt))
          | inr e ↦ runner_reads m p d c e (λ i lt. reads m (move R p i) (closed p d c i lt))
        ]
      ]

  pub labelled : Labelled R D μ
  unfolding Reads
  labelled = record {
    count = λ p d k. (
      (λ h m. ((λ g. (reads m p d).0 h.0 (omega (arith, h.1)) ∙ ap some h.1), (λ g. (reads m p d).1 (λ _. omega (arith, h.1))))),
      (λ settles. elim (dec_lt (μ p) never) [
        | yes y ↦
            let m = max k (μ p) in
            let a : label R m p ≡ some k = (settles m).0 (omega arith) in
            let b : label R m p ≡ some (μ p) = (reads m p d).0 y (omega arith) in
            (y, ap value (sym b ∙ a))
        | no z ↦ absurd (clash (label R k p) k ((settles k).0 (omega arith)) ((reads k p d).1 (λ y. absurd (z y))))
      ]),
    );
    endless = λ p d. (
      (λ n m. (reads m p d).1 (λ y. absurd (omega arith))),
      (λ all. elim (dec_lt (μ p) never) [
        | yes y ↦ absurd (clash (label R (μ p) p) (μ p) ((reads (μ p) p d).0 y (omega arith)) (all (μ p)))
        | no z ↦ omega arith
      ]),
    );
  }
