-- A settled table that is finished makes the whole claim.
use Rattle.std.proofs.Common.{◌≡◌, ℕ, zero, suc, ◌<◌, ◌≤◌, true, false, ◌⊎◌, List, sym, refl, subst, inl, inr, arith, ltb→lt, lt→ltb, le-ltb, lt-ltb}
use native.Mathlib.Decide.{dec_le}
use Rattle.arena.specs.declared.player.Player.TheVariants.{Runner}
use Rattle.arena.specs.Game.{Game, degree, move, caught, places}
use Rattle.arena.specs.Levels.{Level, First, ByLevels}
use Rattle.arena.specs.Sound.{PlacesSound}
use Rattle.arena.specs.TableRules.{TableRules}
use Rattle.theory.proofs.Levels.{level_mono, local, attractor}
use Rattle.theory.proofs.Global.{claims}
use Rattle.theory.proofs.Cover.{claims_up}
use Rattle.theory.proofs.Labels.{labelled}
use Rattle.theory.proofs.Stable.{sound_closed, sound_moves, sound_nonstop}
use Rattle.marks.specs.Marks.{blank, never, none}
use Rattle.rounds.specs.Words.{Best, Finished, order_of, marks_of, moves_of, closed_marks}
use Rattle.rounds.proofs.Positions.{first_same}
use Rattle.solver.specs.Reached.{MarkedAt, AfterRound}
use Rattle.solver.specs.Whole.{Whole, LongestCount, looks_sum}
use Rattle.solver.proofs.Levels.{best_of, first_once, leads}
use Rattle.solver.proofs.Kept.{Later, same_mark, marked_kept}

module _ (g : Game) (sound : PlacesSound g) (r : ℕ) (small : r < blank) (W : List ℕ) (after : AfterRound g r W)
    (lasts : (i p : ℕ) → p < g.size → Level g.rules i p → Level g.rules r p) (V : List ℕ) (finish : Finished g W V) where
  finish_later : Later g r W V
  finish_later q lt = elim (finish q lt) [ inl d ↦ inr (d.0, omega (arith, d.1)) | inr d ↦ inl d.1 ]

  -- a place whose mark stands, and one that had none
  pub Stands : ℕ → Type 0
  Stands p = MarkedAt g r V p × MarkedAt g r W p × (marks_of V p ≡ marks_of W p) × (moves_of g V p ≡ moves_of g W p)

  pub Closes : ℕ → Type 0
  Closes p = (marks_of W p ≡ blank) × (marks_of V p ≡ never) × (Level g.rules r p → ⊥) × Best g.rules (closed_marks W) p (moves_of g V p)

  either : (p : ℕ) → p < g.size → Stands p ⊎ Closes p
  unfolding Stands Closes
  either p lt =
      elim (after p lt) [
        | inl y ↦ elim (finish p lt) [
          | inl d ↦ absurd (omega (arith, y.within, d.0))
          | inr d ↦ inl (marked_kept g sound r small W V finish_later after r (omega arith) p lt y d.1 d.2, y, d.1, d.2)
        ]
        | inr n ↦ elim (finish p lt) [ inl d ↦ inr (n.unmarked, d.1, n.outside, d.2) | inr d ↦ absurd (d.0 n.unmarked) ]
      ]

  by_levels : ByLevels g.rules (places g) (marks_of V)
  unfolding Stands Closes
  by_levels = record {
    count = λ p d h. elim (either p (ltb→lt p g.size d)) [
      | inl y ↦ y.0.first
      | inr n ↦ absurd (omega (arith, n.1))
    ];
    none_holds = λ p d h i l. elim (either p (ltb→lt p g.size d)) [
      | inl y ↦ omega (arith, y.0.within)
      | inr n ↦ n.2 (lasts i p (ltb→lt p g.size d) l)
    ];
  }

  -- the marks of V are those of W with each blank never
  closed_is : (q : ℕ) → q < g.size → closed_marks W q ≡ marks_of V q
  unfolding Stands Closes
  closed_is q lt =
      elim (either q lt) [
        | inl y ↦ let b = lt-ltb (marks_of W q) blank (omega (arith, y.1.within)) in rw b (sym y.2)
        | inr n ↦ let b = le-ltb (marks_of W q) blank (omega (arith, n.0)) in rw b (sym n.1)
      ]

  best : (p : ℕ) → p < g.size → caught g.rules p ≡ false → Best g.rules (marks_of V) p (moves_of g V p)
  unfolding Stands Closes
  best p lt c =
      elim (either p lt) [
        | inl y ↦ y.0.best c
        | inr n ↦ first_same (order_of (g.rules.owner p)) _ _ (degree g.rules p) _ (λ k kl. closed_is (move g.rules p k) ((sound p lt).1 k kl)) n.3
      ]

  idle : (p : ℕ) → p < g.size → caught g.rules p ≡ true → moves_of g V p ≡ none
  unfolding Stands Closes
  idle p lt c = elim (either p lt) [ inl y ↦ y.0.idle c | inr n ↦ absurd (n.2 (level_mono g.rules r 0 p c (omega arith))) ]

  -- a count leads to one that is one less
  one_less : (p : ℕ) → p < g.size → caught g.rules p ≡ false → marks_of V p < never → marks_of V p ≡ suc (marks_of V (move g.rules p (moves_of g V p)))
  unfolding Stands Closes
  one_less p lt c h =
      elim (either p lt) [
        | inl y ↦
            let (kl, e) = leads g sound r small W after p lt y.1 c in
            let q : ℕ = move g.rules p (moves_of g W p) in
            let same = same_mark g sound r small W V finish_later q ((sound p lt).1 (moves_of g W p) kl) (omega (arith, y.1.within)) in
            subst (λ (k : ℕ). marks_of V p ≡ suc (marks_of V (move g.rules p k))) (sym y.3) (omega (arith, y.2))
        | inr n ↦ absurd (omega (arith, n.1))
      ]

  table_rules : TableRules g.rules (places g) (marks_of V) (moves_of g V)
  table_rules p d =
      let lt : p < g.size = ltb→lt p g.size d in
      let any = local g.rules (places g) (marks_of V) (sound_closed g sound) (sound_nonstop g sound) by_levels in
      let here = any.1 p d in
      record {
        over = here.over;
        idle = idle p lt;
        positive = here.positive;
        named = λ c. (best p lt c).within (sound_moves g sound p lt c);
        pursuer_count = λ c e h. (one_less p lt c h, (here.pursuer_count c e h).1);
        runner_count = λ c e h. (one_less p lt c h, (here.runner_count c e h).1);
        pursuer_never = here.pursuer_never;
        runner_never = λ c e h.
            let b = best_of g.rules (marks_of V) p (moves_of g V p) Runner e (best p lt c) in
            let other : never ≤ marks_of V (move g.rules p (any.0 p)) = here.runner_never c e h in
            omega (arith, b.best (any.0 p) (here.named c));
      }

  -- a place whose first level is k has the mark k
  first_mark : (p k : ℕ) → p < g.size → First g.rules p k → marks_of V p ≡ k
  unfolding Stands Closes
  first_mark p k lt f =
      elim (either p lt) [
        | inl y ↦ first_once g.rules p (marks_of V p) k y.0.first f
        | inr n ↦ absurd (n.2 (lasts k p lt f.0))
      ]

  taken : (K : ℕ) → ((i : ℕ) → i < K → (p : ℕ) × (p < g.size) × First g.rules p (suc i)) → (K ≡ 0) ⊎ ((p : ℕ) × (p < g.size) × (marks_of V p ≡ K))
  taken zero grew = inl refl
  taken (suc i) grew = let (p, lt, f) = grew i (omega arith) in inr (p, lt, first_mark p (suc i) lt f)

  -- the longest count is the last level that grew
  longest : (K : ℕ) → ((i p : ℕ) → p < g.size → Level g.rules i p → Level g.rules K p) → ((i : ℕ) → i < K → (p : ℕ) × (p < g.size) × First g.rules p (suc i)) → LongestCount g (marks_of V) K
  longest K top grew = record {
    bounds = λ p lt h.
        let f : First g.rules p (marks_of V p) = by_levels.count p (lt→ltb p g.size lt) h in
        elim (dec_le (marks_of V p) K) [ yes y ↦ y | no z ↦ absurd (f.1 K (omega arith) (top (marks_of V p) p lt f.0)) ];
    taken = taken K grew;
  }

  pub whole : (K looks : ℕ) → ((i p : ℕ) → p < g.size → Level g.rules i p → Level g.rules K p) → ((i : ℕ) → i < K → (p : ℕ) × (p < g.size) × First g.rules p (suc i))
      → r ≡ suc K → ((μ : ℕ → ℕ) → ByLevels g.rules (places g) μ → looks ≡ looks_sum g μ r) → Whole g r looks V
  whole K looks top grew e looked = record {
    claims = claims g.rules (places g) (marks_of V) (moves_of g V) (sound_closed g sound) table_rules;
    folded = λ R φ folds. claims_up R g.rules φ folds (places g) (sound_closed g sound) (marks_of V) (moves_of g V) table_rules;
    levels = by_levels;
    labels = labelled g.rules (places g) (marks_of V) (moves_of g V) (sound_closed g sound) table_rules;
    attractor = attractor g.rules (places g) (marks_of V) by_levels;
    best = best;
    settled = (K, longest K top grew, e);
    looked = looked (marks_of V) by_levels;
  }
