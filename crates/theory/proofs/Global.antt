-- The local rules give the claims.
use Rattle.std.proofs.Common.{◌≡◌, ℕ, zero, suc, ◌+◌, ◌<◌, ◌≤◌, Bool, false, T, List, [], ◌∷◌, length, sym, refl, ap, ◌∙◌, subst, inl, inr, arith}
use native.Mathlib.Decide.{dec_lt, dec_le}
use Rattle.arena.specs.declared.player.Player.TheVariants.{Pursuer, Runner}
use Rattle.arena.specs.Game.{Rules, degree, move, Step, caught}
use Rattle.arena.specs.Plays.{Play, newest, made, From, Strategy, Follows, plan, Lawful, Forces}
use Rattle.marks.specs.Marks.{never}
use Rattle.arena.specs.Claims.{Closed, Claims}
use Rattle.arena.specs.TableRules.{TableRules}
use Rattle.theory.proofs.Plays.{sides, tests, not_both, play_more, from_more, follows_more, made_more}

module _ (R : Rules) (D : ℕ → Bool) (μ w : ℕ → ℕ) (closed : Closed R D) (rules : TableRules R D μ w) where
  inside : (p : ℕ) → T (D p) → caught R p ≡ false → (q : ℕ) → Step R p q → T (D q)
  inside p d c q st = subst (λ (x : ℕ). T (D x)) (sym st.2) (closed p d c st.0 st.1)

  -- the runner's plan: along a move the mark falls by at most one
  down : (p : ℕ) → T (D p) → caught R p ≡ false → (q : ℕ) → Step R p q → (R.owner p ≡ Runner → q ≡ move R p (w p)) → (never ≤ μ p → never ≤ μ q) × (μ p < never → μ p ≤ suc (μ q))
  down p d c q st chosen =
      elim (sides (R.owner p)) [
        | inl e ↦ let m : μ q ≡ μ (move R p st.0) = ap μ st.2 in (
          λ n. let k : never ≤ μ (move R p st.0) = (rules p d).pursuer_never c e n st.0 st.1 in omega arith,
          λ n. let k : μ p ≤ suc (μ (move R p st.0)) = ((rules p d).pursuer_count c e n).1 st.0 st.1 in omega arith,
        )
        | inr e ↦ let m : μ q ≡ μ (move R p (w p)) = ap μ (chosen e) in (
          λ n. let k : never ≤ μ (move R p (w p)) = (rules p d).runner_never c e n in omega arith,
          λ n. let k : μ p ≡ suc (μ (move R p (w p))) = ((rules p d).runner_count c e n).0 in omega arith,
        )
      ]

  abbrev Held : ℕ → List ℕ → Type 0
  Held o h = T (D (newest h)) × (never ≤ μ o → never ≤ μ (newest h)) × (μ o < never → μ o ≤ μ (newest h) + made h)

  held_along : (o : ℕ) → T (D o) → (h : List ℕ) → Play R h → From o h → Follows R Runner (plan w) h → Held o h
  held_along o d [] pl fr fo = absurd pl
  held_along o d (p ∷ []) pl fr fo =
      let m : μ p ≡ μ o = ap μ fr in
      (subst (λ (x : ℕ). T (D x)) (sym fr) d, (λ n. omega arith), (λ n. omega arith))
  held_along o d (q ∷ (p ∷ h)) pl fr fo =
      let ih = held_along o d (p ∷ h) pl.2 fr fo.1 in
      let k = down p ih.0 pl.0 q pl.1 fo.0 in (
        inside p ih.0 pl.0 q pl.1,
        (λ n. k.0 (ih.1 n)),
        (λ n. let a : μ o ≤ μ p + length h = ih.2 n in
            elim (dec_lt (μ p) never) [
              | yes y ↦ let b : μ p ≤ suc (μ q) = k.1 y in omega arith
              | no z ↦ let b : never ≤ μ q = k.0 (omega arith) in omega arith
            ]),
      )

  -- the pursuer's plan: along a move the mark falls by at least one
  up : (p : ℕ) → T (D p) → caught R p ≡ false → μ p < never → (q : ℕ) → Step R p q → (R.owner p ≡ Pursuer → q ≡ move R p (w p)) → suc (μ q) ≤ μ p
  up p d c n q st chosen =
      elim (sides (R.owner p)) [
        | inl e ↦ let m : μ q ≡ μ (move R p (w p)) = ap μ (chosen e) in
            let k : μ p ≡ suc (μ (move R p (w p))) = ((rules p d).pursuer_count c e n).0 in omega arith
        | inr e ↦ let m : μ q ≡ μ (move R p st.0) = ap μ st.2 in
            let k : suc (μ (move R p st.0)) ≤ μ p = ((rules p d).runner_count c e n).1 st.0 st.1 in omega arith
      ]

  forced_along : (o : ℕ) → T (D o) → μ o < never → (h : List ℕ) → Play R h → From o h → Follows R Pursuer (plan w) h → T (D (newest h)) × (μ (newest h) + made h ≤ μ o)
  forced_along o d n [] pl fr fo = absurd pl
  forced_along o d n (p ∷ []) pl fr fo = let m : μ p ≡ μ o = ap μ fr in (subst (λ (x : ℕ). T (D x)) (sym fr) d, omega arith)
  forced_along o d n (q ∷ (p ∷ h)) pl fr fo =
      let ih = forced_along o d n (p ∷ h) pl.2 fr fo.1 in
      let a : μ p + length h ≤ μ o = ih.1 in
      let k : suc (μ q) ≤ μ p = up p ih.0 pl.0 (omega arith) q pl.1 fo.0 in
      (inside p ih.0 pl.0 q pl.1, omega arith)

  forced : (o : ℕ) → T (D o) → μ o < never → Forces R (plan w) o (μ o)
  forced o d n h pl fr fo c stops =
      let k = forced_along o d n h pl fr fo in
      let a : 0 < μ (newest h) = (rules (newest h) k.0).positive c in
      let b : w (newest h) < degree R (newest h) = (rules (newest h) k.0).named c in
      omega arith

  -- a play that follows s and the runner's plan, for n moves
  abbrev Line : Strategy → ℕ → ℕ → Type 0
  Line s o n = (h : List ℕ) × Play R h × From o h × Follows R Pursuer s h × Follows R Runner (plan w) h × (made h ≡ n)

  open_yet : (o : ℕ) → T (D o) → (h : List ℕ) → Play R h → From o h → Follows R Runner (plan w) h → (μ o < never → made h < μ o) → caught R (newest h) ≡ false
  open_yet o d h pl fr fw safe =
      elim (tests (caught R (newest h))) [
        | inl c ↦
            let k = held_along o d h pl fr fw in
            let z : μ (newest h) ≡ 0 = (rules (newest h) k.0).over c in
            elim (dec_lt (μ o) never) [
              | yes y ↦ let a : μ o ≤ μ (newest h) + made h = k.2 y in let b : made h < μ o = safe y in absurd (omega arith)
              | no y ↦ let a : never ≤ μ (newest h) = k.1 (omega arith) in absurd (omega arith)
            ]
        | inr c ↦ c
      ]

  line : (s : Strategy) (o : ℕ) → T (D o) → Lawful R o s → (n : ℕ) → (μ o < never → n ≤ μ o) → Line s o n
  line s o d lawful zero safe = (o ∷ [], tt, refl, tt, tt, refl)
  line s o d lawful (suc n) safe =
      let (h, pl, fr, fs, fw, m) = line s o d lawful n (λ y. let a : suc n ≤ μ o = safe y in omega arith) in
      let x = newest h in
      let c : caught R x ≡ false = open_yet o d h pl fr fw (λ y. let a : suc n ≤ μ o = safe y in omega arith) in
      let dx : T (D x) = (held_along o d h pl fr fw).0 in
      let b : w x < degree R x = (rules x dx).named c in
      elim (sides (R.owner x)) [
        | inl e ↦
            let i : s h < degree R x = lawful h pl fr c e (omega arith) in
            let q = move R x (s h) in (
              q ∷ h,
              play_more R h q pl c (s h, i, refl),
              from_more o h q fr,
              follows_more R Pursuer s h q (λ _. refl) fs,
              follows_more R Runner (plan w) h q (λ r. absurd (not_both (R.owner x) e r)) fw,
              made_more R h q pl ∙ ap suc m,
            )
        | inr e ↦
            let q = move R x (w x) in (
              q ∷ h,
              play_more R h q pl c (w x, b, refl),
              from_more o h q fr,
              follows_more R Pursuer s h q (λ r. absurd (not_both (R.owner x) r e)) fs,
              follows_more R Runner (plan w) h q (λ _. refl) fw,
              made_more R h q pl ∙ ap suc m,
            )
      ]

  unforced_by : (s : Strategy) (o : ℕ) → T (D o) → Lawful R o s → (j : ℕ) → (μ o < never → j < μ o) → Forces R s o j → ⊥
  unforced_by s o d lawful j safe wins =
      let (h, pl, fr, fs, fw, m) = line s o d lawful j (λ y. let a : j < μ o = safe y in omega arith) in
      wins h pl fr fs (open_yet o d h pl fr fw (λ y. let a : j < μ o = safe y in omega arith)) (inl m)

  pub claims : Claims R D μ w
  claims p d = record {
    idle = (rules p d).idle;
    named = (rules p d).named;
    forced = forced p d;
    least = λ n s lawful j wins. elim (dec_le (μ p) j) [ yes y ↦ y | no z ↦ absurd (unforced_by s p d lawful j (λ _. omega arith) wins) ];
    held = λ n h pl fr fw c.
        let k = held_along p d h pl fr fw in
        let z : μ (newest h) ≡ 0 = (rules (newest h) k.0).over c in
        let a : μ p ≤ μ (newest h) + made h = k.2 n in
        omega arith;
    unforced = λ n s lawful j wins. unforced_by s p d lawful j (λ y. absurd (omega arith)) wins;
    uncaught = λ n h pl fr fw c.
        let k = held_along p d h pl fr fw in
        let z : μ (newest h) ≡ 0 = (rules (newest h) k.0).over c in
        let a : never ≤ μ (newest h) = k.1 n in
        omega arith;
  }
