-- Marks within j rounds are levels.
use Rattle.std.proofs.Common.{◌≡◌, ℕ, zero, suc, ◌<◌, ◌≤◌, Bool, false, cond, List, sym, refl, ap, ◌∙◌, subst, inl, inr, arith}
use native.Mathlib.Decide.{dec_lt, dec_le}
use Rattle.arena.specs.declared.player.Player.{Player}
use Rattle.arena.specs.declared.player.Player.TheVariants.{Pursuer, Runner}
use Rattle.arena.specs.Game.{Game, Rules, degree, move, caught}
use Rattle.arena.specs.Levels.{Grows, Level, First}
use Rattle.arena.specs.Sound.{PlacesSound}
use Rattle.theory.proofs.Plays.{tests, not_clash}
use Rattle.theory.proofs.Levels.{level_mono}
use Rattle.theory.proofs.Stable.{sound_moves}
use Rattle.marks.specs.Marks.{blank}
use Rattle.rounds.specs.Words.{FirstPosition, Best, Ready, Begun, order_of, marks_of, moves_of}
use Rattle.solver.specs.Reached.{MarkedAt, AfterRound}

-- the best position, once the owner is known
pub best_of : (R : Rules) (μ : ℕ → ℕ) (p j : ℕ) (s : Player) → R.owner p ≡ s → Best R μ p j → FirstPosition (order_of s) (λ k. μ (move R p k)) (degree R p) j
best_of R μ p j s e b = subst (λ (x : Player). FirstPosition (order_of x) (λ k. μ (move R p k)) (degree R p) j) e b

-- two first levels are one
pub first_once : (R : Rules) (p i k : ℕ) → First R p i → First R p k → i ≡ k
first_once R p i k f h =
    elim (dec_lt i k) [
      | yes y ↦ absurd (h.1 i y f.0)
      | no z ↦ elim (dec_lt k i) [ yes y ↦ absurd (f.1 k y h.0) | no y ↦ omega arith ]
    ]

pub begun_after : (g : Game) (W : List ℕ) → Begun g W → AfterRound g 0 W
begun_after g W b p lt =
    elim (tests (caught g.rules p)) [
      | inl c ↦
          let e : marks_of W p ≡ 0 = (b p lt).0 ∙ ap (λ (x : Bool). cond x 0 blank) c in
          inl (record {
            within = omega arith;
            first = subst (λ (k : ℕ). First g.rules p k) (sym e) (c, λ i h. absurd (omega arith));
            idle = λ _. (b p lt).1;
            best = λ f. absurd (not_clash (caught g.rules p) c f);
          })
      | inr c ↦
          inr (record {
            unmarked = (b p lt).0 ∙ ap (λ (x : Bool). cond x 0 blank) c;
            outside = λ t. not_clash (caught g.rules p) t c;
            idle = (b p lt).1;
          })
    ]

module _ (g : Game) (sound : PlacesSound g) (j : ℕ) (small : j < blank) (W : List ℕ) (after : AfterRound g j W) where
  -- a mark up to j is a level that holds the place
  pub in_level : (q : ℕ) → q < g.size → marks_of W q ≤ j → Level g.rules (marks_of W q) q
  in_level q lt h = elim (after q lt) [ inl y ↦ y.first.0 | inr n ↦ absurd (omega (arith, n.unmarked)) ]

  -- a level up to j that holds the place bounds its mark
  pub has_mark : (i q : ℕ) → q < g.size → i ≤ j → Level g.rules i q → marks_of W q ≤ i
  has_mark i q lt h l =
      elim (after q lt) [
        | inl y ↦ elim (dec_le (marks_of W q) i) [ yes a ↦ a | no z ↦ absurd (y.first.1 i (omega arith) l) ]
        | inr n ↦ absurd (n.outside (level_mono g.rules j i q l h))
      ]

  pub grows : (p : ℕ) → p < g.size → Ready g.rules (suc j) W p → Grows g.rules (λ q. Level g.rules j q) p
  grows p lt (inl r) =
      let q : ℕ = move g.rules p r.1.0 in
      let le : marks_of W q ≤ j = omega (arith, r.1.2) in
      inl (r.0, (r.1.0, r.1.1, level_mono g.rules j (marks_of W q) q (in_level q ((sound p lt).1 r.1.0 r.1.1) le) le))
  grows p lt (inr r) =
      inr (
        r.0,
        λ k l.
            let q : ℕ = move g.rules p k in
            let le : marks_of W q ≤ j = omega (arith, r.1 k l) in
            level_mono g.rules j (marks_of W q) q (in_level q ((sound p lt).1 k l) le) le,
      )

  -- what a level up to j adds is ready
  pub is_ready : (i p : ℕ) → p < g.size → i ≤ j → Grows g.rules (λ q. Level g.rules i q) p → Ready g.rules (suc j) W p
  is_ready i p lt h (inl r) = inl (r.0, (r.1.0, r.1.1, omega (arith, has_mark i (move g.rules p r.1.0) ((sound p lt).1 r.1.0 r.1.1) h r.1.2)))
  is_ready i p lt h (inr r) = inr (r.0, λ k l. omega (arith, has_mark i (move g.rules p k) ((sound p lt).1 k l) h (r.1 k l)))

  -- if no blank place is ready, the level does not grow
  pub stays : ((p : ℕ) → p < g.size → marks_of W p ≡ blank → Ready g.rules (suc j) W p → ⊥) → (p : ℕ) → p < g.size → Level g.rules (suc j) p → Level g.rules j p
  stays none p lt (inl l) = l
  stays none p lt (inr f) =
      elim (after p lt) [
        | inl y ↦ level_mono g.rules j (marks_of W p) p y.first.0 y.within
        | inr n ↦ absurd (none p lt n.unmarked (is_ready j p lt (omega arith) f))
      ]

  -- a mark above 0 was added to the level before it
  added : (m p : ℕ) → First g.rules p m → caught g.rules p ≡ false → (i : ℕ) × (m ≡ suc i) × Grows g.rules (λ q. Level g.rules i q) p
  added zero p f c = absurd (not_clash (caught g.rules p) f.0 c)
  added (suc i) p (inl l, least) c = absurd (least i (omega arith) l)
  added (suc i) p (inr r, least) c = (i, refl, r)

  module _ (p : ℕ) (lt : p < g.size) (marked : MarkedAt g j W p) (c : caught g.rules p ≡ false) where
    -- the place is ready still
    pub ready_still : Ready g.rules (suc j) W p
    ready_still =
        let (i, e, r) = added (marks_of W p) p marked.first c in
        is_ready i p lt (omega (arith, marked.within)) r

    leads_by : (i k : ℕ) → marks_of W p ≡ suc i → k < degree g.rules p → Grows g.rules (λ q. Level g.rules i q) p → Best g.rules (marks_of W) p k → marks_of W (move g.rules p k) ≡ i
    leads_by i k e kl (inl r) best =
        let b = best_of g.rules (marks_of W) p k Pursuer r.0 best in
        let q : ℕ = move g.rules p k in
        let ql : q < g.size = (sound p lt).1 k kl in
        let known = has_mark i (move g.rules p r.1.0) ((sound p lt).1 r.1.0 r.1.1) (omega (arith, marked.within)) r.1.2 in
        let le : marks_of W q ≤ i = omega (arith, b.best r.1.0 r.1.1, known) in
        elim (dec_lt (marks_of W q) i) [
          | yes y ↦ absurd (marked.first.1 (suc (marks_of W q)) (omega arith) (inr (inl (r.0, (k, kl, in_level q ql (omega (arith, marked.within)))))))
          | no z ↦ omega arith
        ]
    leads_by i k e kl (inr r) best =
        let b = best_of g.rules (marks_of W) p k Runner r.0 best in
        let q : ℕ = move g.rules p k in
        let known : (x : ℕ) → x < degree g.rules p → marks_of W (move g.rules p x) ≤ i = λ x xl. has_mark i (move g.rules p x) ((sound p lt).1 x xl) (omega (arith, marked.within)) (r.1 x xl) in
        let le : marks_of W q ≤ i = known k kl in
        elim (dec_lt (marks_of W q) i) [
          | yes y ↦ absurd (marked.first.1 (suc (marks_of W q)) (omega arith) (inr (inr (
            r.0,
            λ x xl.
                let o : ℕ = move g.rules p x in
                let ol : o < g.size = (sound p lt).1 x xl in
                level_mono g.rules (marks_of W q) (marks_of W o) o (in_level o ol (omega (arith, known x xl, marked.within))) (b.best x xl),
          ))))
          | no z ↦ omega arith
        ]

    -- the move word is a move that there is, and leads to a mark that is one less
    pub leads : (moves_of g W p < degree g.rules p) × (marks_of W p ≡ suc (marks_of W (move g.rules p (moves_of g W p))))
    leads =
        let (i, e, r) = added (marks_of W p) p marked.first c in
        let best = marked.best c in
        let kl : moves_of g W p < degree g.rules p = best.within (sound_moves g sound p lt c) in
        let there : marks_of W (move g.rules p (moves_of g W p)) ≡ i = leads_by i (moves_of g W p) e kl r best in
        (kl, omega arith)
