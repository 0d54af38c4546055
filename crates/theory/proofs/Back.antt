-- The claims give the local rules.
use Rattle.std.proofs.Common.{◌≡◌, ℕ, zero, suc, pred, ◌<◌, ◌≤◌, Bool, true, false, T, ◌⊎◌, List, [], ◌∷◌, ◌++◌, sym, refl, ap, ◌∙◌, subst, inl, inr, arith}
use native.Mathlib.Decide.{dec_lt}
use Rattle.arena.specs.declared.player.Player.TheVariants.{Pursuer, Runner}
use Rattle.arena.specs.Game.{Rules, degree, move, Step, caught}
use Rattle.arena.specs.Plays.{Play, newest, made, From, Follows, plan, Lawful, Forces}
use Rattle.marks.specs.Marks.{never}
use Rattle.arena.specs.Claims.{Closed, Claims}
use Rattle.arena.specs.TableRules.{TableRules}
use Rattle.theory.proofs.Plays.{tests, not_both, play_more, from_more, follows_more, made_more}
use Rattle.theory.proofs.Ends.{play_first, from_first, follows_first, made_first, strip, strip_length, strip_play, first_then, strip_follows, strip_from}

module _ (R : Rules) (D : ℕ → Bool) (μ w : ℕ → ℕ) (closed : Closed R D) (cl : Claims R D μ w) where
  inside : (p : ℕ) → T (D p) → caught R p ≡ false → (q : ℕ) → Step R p q → T (D q)
  inside p d c q st = subst (λ (x : ℕ). T (D x)) (sym st.2) (closed p d c st.0 st.1)

  stays : (o : ℕ) → T (D o) → (h : List ℕ) → Play R h → From o h → T (D (newest h))
  stays o d [] pl fr = absurd pl
  stays o d (p ∷ []) pl fr = subst (λ (x : ℕ). T (D x)) (sym fr) d
  stays o d (q ∷ (p ∷ h)) pl fr = inside p (stays o d (p ∷ h) pl.2 fr) pl.0 q pl.1

  lawful_plan : (o : ℕ) → T (D o) → Lawful R o (plan w)
  lawful_plan o d h pl fr c e z = (cl (newest h) (stays o d h pl fr)).named c

  over : (p : ℕ) → T (D p) → caught R p ≡ true → μ p ≡ 0
  over p d c =
      elim (dec_lt (μ p) never) [
        | yes y ↦ let a : μ p ≤ 0 = (cl p d).held y (p ∷ []) tt refl tt c in omega arith
        | no z ↦ absurd ((cl p d).uncaught (omega arith) (p ∷ []) tt refl tt c)
      ]

  positive : (p : ℕ) → T (D p) → caught R p ≡ false → 0 < μ p
  positive p d c =
      elim (dec_lt 0 (μ p)) [
        | yes y ↦ y
        | no z ↦ absurd ((cl p d).forced (omega arith) (p ∷ []) tt refl tt c (inl (omega arith)))
      ]

  -- what the plan forces from p in suc j moves, it forces from the next place in j
  forces_after : (p : ℕ) → T (D p) → caught R p ≡ false → μ p < never → (q : ℕ) → Step R p q → (R.owner p ≡ Pursuer → q ≡ move R p (w p)) → (j : ℕ) → μ p ≡ suc j → Forces R (plan w) q j
  forces_after p d c n q st first j e [] pl fr fo co stops = absurd pl
  forces_after p d c n q st first j e (x ∷ h) pl fr fo co stops =
      (cl p d).forced n ((x ∷ h) ++ (p ∷ [])) (play_first R p q (x ∷ h) pl fr c st) (from_first p (x ∷ h)) (follows_first R Pursuer w p q (x ∷ h) fr first fo) co
      (elim stops [ inl m ↦ inl (omega (arith, made_first p x h)) | inr z ↦ inr z ])

  lowers : (p : ℕ) → T (D p) → caught R p ≡ false → μ p < never → (q : ℕ) → Step R p q → (R.owner p ≡ Pursuer → q ≡ move R p (w p)) → suc (μ q) ≤ μ p
  lowers p d c n q st first =
      let a : 0 < μ p = positive p d c in
      let dq = inside p d c q st in
      let wins = forces_after p d c n q st first (pred (μ p)) (omega arith) in
      elim (dec_lt (μ q) never) [
        | yes y ↦ let b : μ q ≤ pred (μ p) = (cl q dq).least y (plan w) (lawful_plan q dq) (pred (μ p)) wins in omega arith
        | no z ↦ absurd ((cl q dq).unforced (omega arith) (plan w) (lawful_plan q dq) (pred (μ p)) wins)
      ]

  -- a pursuer's place: any move first, and then the plan
  first_lawful : (p : ℕ) → T (D p) → (i : ℕ) → i < degree R p → Lawful R p (first_then i w)
  first_lawful p d i l [] pl fr c e z = absurd pl
  first_lawful p d i l (x ∷ []) pl fr c e z = subst (λ (y : ℕ). i < degree R y) (sym fr) l
  first_lawful p d i l (y ∷ (x ∷ h)) pl fr c e z = (cl y (stays p d (y ∷ (x ∷ h)) pl fr)).named c

  first_forces : (p : ℕ) → T (D p) → caught R p ≡ false → R.owner p ≡ Pursuer → (i : ℕ) → i < degree R p → μ (move R p i) < never → Forces R (first_then i w) p (suc (μ (move R p i)))
  first_forces p d c e i l n [] pl fr fo co stops = absurd pl
  first_forces p d c e i l n (x ∷ []) pl fr fo co stops =
      let a : 0 < degree R x = subst (λ (y : ℕ). 0 < degree R y) (sym fr) (omega arith) in
      omega arith
  first_forces p d c e i l n (y ∷ (x ∷ h)) pl fr fo co stops =
      let q = move R p i in
      (cl q (closed p d c i l)).forced n (y ∷ strip x h) (strip_play R y x h pl) (strip_from R i w p e y x h fr fo) (strip_follows R i w y x h fo) co
      (elim stops [ inl m ↦ inl (omega (arith, strip_length x h)) | inr z ↦ inr z ])

  raises : (p : ℕ) → T (D p) → caught R p ≡ false → R.owner p ≡ Pursuer → (i : ℕ) → i < degree R p → (never ≤ μ p → never ≤ μ (move R p i)) × (μ p < never → μ p ≤ suc (μ (move R p i)))
  raises p d c e i l =
      let q = move R p i in
      elim (dec_lt (μ q) never) [
        | yes y ↦
            let wins = first_forces p d c e i l y in (
              (λ n. absurd ((cl p d).unforced n (first_then i w) (first_lawful p d i l) (suc (μ q)) wins)),
              (λ n. (cl p d).least n (first_then i w) (first_lawful p d i l) (suc (μ q)) wins),
            )
        | no z ↦ ((λ n. omega arith), (λ n. omega arith))
      ]

  -- both players on the plan
  abbrev Both : ℕ → List ℕ → Type 0
  Both o h = Play R h × From o h × Follows R Pursuer (plan w) h × Follows R Runner (plan w) h

  both_more : (o : ℕ) → T (D o) → (h : List ℕ) → Both o h → caught R (newest h) ≡ false → Both o (move R (newest h) (w (newest h)) ∷ h)
  both_more o d h (pl, fr, fs, fw) c =
      let x = newest h in
      let q = move R x (w x) in (
        play_more R h q pl c (w x, (cl x (stays o d h pl fr)).named c, refl),
        from_more o h q fr,
        follows_more R Pursuer (plan w) h q (λ _. refl) fs,
        follows_more R Runner (plan w) h q (λ _. refl) fw,
      )

  abbrev Caught : ℕ → ℕ → Type 0
  Caught o n = (h : List ℕ) × Both o h × (caught R (newest h) ≡ true) × (made h ≤ n)

  abbrev Free : ℕ → ℕ → Type 0
  Free o n = (h : List ℕ) × Both o h × (caught R (newest h) ≡ false) × (made h ≡ n)

  run : (o : ℕ) → T (D o) → (n : ℕ) → Caught o n ⊎ Free o n
  run o d zero =
      elim (tests (caught R o)) [
        | inl c ↦ inl (o ∷ [], (tt, refl, tt, tt), c, omega arith)
        | inr c ↦ inr (o ∷ [], (tt, refl, tt, tt), c, refl)
      ]
  run o d (suc n) =
      elim (run o d n) [
        | inl k ↦ inl (k.0, k.1, k.2, omega (arith, k.3))
        | inr k ↦
            let h = k.0 in
            let q = move R (newest h) (w (newest h)) in
            let b = both_more o d h k.1 k.2 in
            let m : made (q ∷ h) ≡ suc n = made_more R h q k.1.0 ∙ ap suc k.3 in
            elim (tests (caught R q)) [
              | inl c ↦ inl (q ∷ h, b, c, omega arith)
              | inr c ↦ inr (q ∷ h, b, c, m)
            ]
      ]

  meets : (o : ℕ) → T (D o) → μ o < never → Caught o (μ o)
  meets o d n =
      elim (run o d (μ o)) [
        | inl k ↦ k
        | inr k ↦ absurd ((cl o d).forced n k.0 k.1.0 k.1.1 k.1.2 k.2 (inl k.3))
      ]

  -- the runner's chosen move
  Holds : ℕ → ℕ → Type 0
  Holds m n = (never ≤ m → never ≤ n) × (m < never → m ≤ suc n)

  holds : (p : ℕ) → T (D p) → caught R p ≡ false → R.owner p ≡ Runner → (h : List ℕ) → Both (move R p (w p)) h → caught R (newest h) ≡ true → made h ≤ μ (move R p (w p)) → Holds (μ p) (μ (move R p (w p)))
  unfolding Holds
  holds p d c e [] b ca m = absurd b.0
  holds p d c e (x ∷ h) (pl, fr, fs, fw) ca m =
      let q = move R p (w p) in
      let st : Step R p q = (w p, (cl p d).named c, refl) in
      let pl' = play_first R p q (x ∷ h) pl fr c st in
      let fw' = follows_first R Runner w p q (x ∷ h) fr (λ _. refl) fw in (
        (λ n. absurd ((cl p d).uncaught n ((x ∷ h) ++ (p ∷ [])) pl' (from_first p (x ∷ h)) fw' ca)),
        (λ n. let a : μ p ≤ made ((x ∷ h) ++ (p ∷ [])) = (cl p d).held n ((x ∷ h) ++ (p ∷ [])) pl' (from_first p (x ∷ h)) fw' ca in omega (arith, made_first p x h)),
      )

  chosen : (p : ℕ) → T (D p) → caught R p ≡ false → R.owner p ≡ Runner → Holds (μ p) (μ (move R p (w p)))
  unfolding Holds
  chosen p d c e =
      let q = move R p (w p) in
      elim (dec_lt (μ q) never) [
        | yes y ↦ let k = meets q (closed p d c (w p) ((cl p d).named c)) y in holds p d c e k.0 k.1 k.2 k.3
        | no z ↦ ((λ n. omega arith), (λ n. omega arith))
      ]

  pub rules : TableRules R D μ w
  unfolding Holds
  rules p d = record {
    over = over p d;
    positive = positive p d;
    idle = (cl p d).idle;
    named = (cl p d).named;
    pursuer_count = λ c e n.
        let l = (cl p d).named c in
        let a : suc (μ (move R p (w p))) ≤ μ p = lowers p d c n (move R p (w p)) (w p, l, refl) (λ _. refl) in
        let b : μ p ≤ suc (μ (move R p (w p))) = (raises p d c e (w p) l).1 n in
        (omega arith, λ i k. (raises p d c e i k).1 n);
    runner_count = λ c e n.
        let all : (i : ℕ) → i < degree R p → suc (μ (move R p i)) ≤ μ p = λ i k. lowers p d c n (move R p i) (i, k, refl) (λ f. absurd (not_both (R.owner p) f e)) in
        let a : suc (μ (move R p (w p))) ≤ μ p = all (w p) ((cl p d).named c) in
        let b : μ p ≤ suc (μ (move R p (w p))) = (chosen p d c e).1 n in
        (omega arith, all);
    pursuer_never = λ c e n i k. (raises p d c e i k).0 n;
    runner_never = λ c e n. (chosen p d c e).0 n;
  }
