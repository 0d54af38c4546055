-- Blank marks, counted before and after a round.
use Rattle.std.proofs.Common.{◌≡◌, ℕ, zero, suc, ◌*◌, ◌<◌, ◌≤◌, cond, eqb, ◌⊎◌, List, sym, refl, ◌∙◌, subst, inl, inr, arith, eq-eqb, ne_eqb, eqb-true}
use native.Mathlib.Decide.{dec_lt}
use borrow.Author.Tests.{eqb-false}
use Rattle.arena.specs.Game.{Game, degree}
use Rattle.arena.specs.Sound.{PlacesSound}
use Rattle.theory.proofs.Plays.{tests}
use Rattle.marks.specs.Marks.{blank}
use Rattle.rounds.specs.Words.{marks_of, Ready, Rounded, blanks, looks_of}

-- what a word adds to a count of the blank ones
pub weight_blank : (x a : ℕ) → x ≡ blank → cond (eqb x blank) a 0 ≡ a
weight_blank x a e = rw (eq-eqb x blank e)

pub weight_other : (x a : ℕ) → (x ≡ blank → ⊥) → cond (eqb x blank) a 0 ≡ 0
weight_other x a n = rw (ne_eqb x blank n)

pub is_blank : (x : ℕ) → (x ≡ blank) ⊎ (x ≡ blank → ⊥)
is_blank x = elim (tests (eqb x blank)) [ inl e ↦ inl (eqb-true x blank e) | inr e ↦ inr (eqb-false x blank e) ]

pub blanks_most : (n : ℕ) (W : List ℕ) → blanks n W ≤ n
blanks_most zero W = omega arith
blanks_most (suc n) W =
    elim (is_blank (marks_of W n)) [
      | inl e ↦ omega (arith, weight_blank (marks_of W n) 1 e, blanks_most n W)
      | inr e ↦ omega (arith, weight_other (marks_of W n) 1 e, blanks_most n W)
    ]

-- marks that are equal have as many blanks
pub blanks_same : (n : ℕ) (W V : List ℕ) → ((k : ℕ) → k < n → marks_of V k ≡ marks_of W k) → blanks n V ≡ blanks n W
blanks_same zero W V e = refl
blanks_same (suc n) W V e =
    let a : marks_of V n ≡ marks_of W n = e n (omega arith) in
    let b : blanks n V ≡ blanks n W = blanks_same n W V (λ k l. e k (omega arith)) in
    rw (a, b)

-- fewer blank marks: some place was blank and is not
blanks_some : (n : ℕ) (W V : List ℕ) → blanks n V < blanks n W → (p : ℕ) × (p < n) × (marks_of W p ≡ blank) × (marks_of V p ≡ blank → ⊥)
blanks_some zero W V h = absurd (omega arith)
blanks_some (suc n) W V h =
    elim (is_blank (marks_of W n)) [
      | inl e ↦ elim (is_blank (marks_of V n)) [
        | inl f ↦
            let r = blanks_some n W V (omega (arith, weight_blank (marks_of W n) 1 e, weight_blank (marks_of V n) 1 f)) in
            (r.0, omega (arith, r.1), r.2, r.3)
        | inr f ↦ (n, omega arith, e, f)
      ]
      | inr e ↦
          let r = blanks_some n W V (omega (arith, weight_other (marks_of W n) 1 e)) in
          (r.0, omega (arith, r.1), r.2, r.3)
    ]

-- where every blank mark was blank, there are no more of them, and fewer if one place was blank and is not
blanks_le : (n : ℕ) (W V : List ℕ) → ((k : ℕ) → k < n → marks_of V k ≡ blank → marks_of W k ≡ blank) → blanks n V ≤ blanks n W
blanks_le zero W V s = omega arith
blanks_le (suc n) W V s =
    let r = blanks_le n W V (λ k l. s k (omega arith)) in
    elim (is_blank (marks_of V n)) [
      | inl f ↦ omega (arith, weight_blank (marks_of V n) 1 f, weight_blank (marks_of W n) 1 (s n (omega arith) f), r)
      | inr f ↦ omega (arith, weight_other (marks_of V n) 1 f, r)
    ]

blanks_lt : (n : ℕ) (W V : List ℕ) → ((k : ℕ) → k < n → marks_of V k ≡ blank → marks_of W k ≡ blank) → (p : ℕ) → p < n → marks_of W p ≡ blank → (marks_of V p ≡ blank → ⊥)
    → blanks n V < blanks n W
blanks_lt zero W V s p l e f = absurd (omega arith)
blanks_lt (suc n) W V s p l e f =
    elim (dec_lt p n) [
      | yes y ↦
          let r = blanks_lt n W V (λ k h. s k (omega arith)) p y e f in
          elim (is_blank (marks_of V n)) [
            | inl b ↦ omega (arith, weight_blank (marks_of V n) 1 b, weight_blank (marks_of W n) 1 (s n (omega arith) b), r)
            | inr b ↦ omega (arith, weight_other (marks_of V n) 1 b, r)
          ]
      | no z ↦
          let q : p ≡ n = omega arith in
          let a : marks_of W n ≡ blank = subst (λ (x : ℕ). marks_of W x ≡ blank) q e in
          let b : (marks_of V n ≡ blank → ⊥) = subst (λ (x : ℕ). marks_of V x ≡ blank → ⊥) q f in
          omega (arith, weight_blank (marks_of W n) 1 a, weight_other (marks_of V n) 1 b, blanks_le n W V (λ k h. s k (omega arith)))
    ]

module _ (g : Game) (i : ℕ) (small : i < blank) (W V : List ℕ) (round : Rounded g i W V) where
  was_blank : (k : ℕ) → k < g.size → marks_of V k ≡ blank → marks_of W k ≡ blank
  was_blank k l e = elim (round k l) [ inl d ↦ d.0 | inr d ↦ sym d.1 ∙ e ]

  -- a round makes no blank mark
  pub no_more : blanks g.size V ≤ blanks g.size W
  no_more = blanks_le g.size W V was_blank

  -- a round that marks none found no blank place ready
  pub none_ready : blanks g.size V ≡ blanks g.size W → (p : ℕ) → p < g.size → marks_of W p ≡ blank → Ready g.rules i W p → ⊥
  none_ready same p l e r =
      elim (round p l) [
        | inl d ↦ omega (arith, blanks_lt g.size W V was_blank p l e (λ (b : marks_of V p ≡ blank). omega (arith, d.2)))
        | inr d ↦ d.0 e r
      ]

  -- a round that marks some has a place with its number
  pub some_marked : blanks g.size V < blanks g.size W → (p : ℕ) × (p < g.size) × (marks_of V p ≡ i)
  some_marked h =
      let s = blanks_some g.size W V h in
      (s.0, s.1, elim (round s.0 s.1) [ inl d ↦ d.2 | inr d ↦ absurd (s.3 (d.1 ∙ s.2)) ])

-- the looks of a round are few
pub looks_most : (g : Game) → PlacesSound g → (n : ℕ) → n ≤ g.size → (W : List ℕ) → looks_of g.rules n W ≤ 65535 * n
looks_most g sound zero le W = omega arith
looks_most g sound (suc n) le W =
    let r = looks_most g sound n (omega arith) W in
    let d : degree g.rules n ≤ 65535 = (sound n (omega arith)).0 in
    elim (is_blank (marks_of W n)) [
      | inl e ↦ omega (arith, weight_blank (marks_of W n) (degree g.rules n) e, r)
      | inr e ↦ omega (arith, weight_other (marks_of W n) (degree g.rules n) e, r)
    ]
