-- A move word stays the best when blank marks turn to later ones.
use Rattle.std.proofs.Common.{◌≡◌, ℕ, suc, ◌<◌, ◌≤◌, ◌⊎◌, List, sym, refl, ◌∙◌, subst, inl, inr, arith}
use Rattle.arena.specs.declared.player.Player.{Player}
use Rattle.arena.specs.declared.player.Player.TheVariants.{Pursuer, Runner}
use Rattle.arena.specs.Game.{Game, degree, move}
use Rattle.arena.specs.Levels.{Level, First}
use Rattle.arena.specs.Sound.{PlacesSound}
use Rattle.theory.proofs.Plays.{not_both}
use Rattle.theory.proofs.Levels.{level_mono}
use Rattle.marks.specs.Marks.{blank}
use Rattle.marks.specs.Picks.{Least, Greatest}
use Rattle.rounds.specs.Words.{FirstPosition, Best, Ready, Rounded, order_of, marks_of, moves_of}
use Rattle.rounds.proofs.Positions.{first_same}
use Rattle.solver.specs.Reached.{MarkedAt, AfterRound}
use Rattle.solver.proofs.Levels.{grows, is_ready, ready_still}

-- each mark of W stands in V, or was blank and is above j
abbrev pub Later : Game → ℕ → List ℕ → List ℕ → Type 0
Later g j W V = (q : ℕ) → q < g.size → (marks_of V q ≡ marks_of W q) ⊎ ((marks_of W q ≡ blank) × (j < marks_of V q))

module _ (g : Game) (sound : PlacesSound g) (j : ℕ) (small : j < blank) (W V : List ℕ) (later : Later g j W V) where
  pub same_mark : (q : ℕ) → q < g.size → marks_of W q ≤ j → marks_of V q ≡ marks_of W q
  same_mark q lt h = elim (later q lt) [ inl e ↦ e | inr d ↦ absurd (omega (arith, d.0)) ]

  least_kept : (p k i : ℕ) → p < g.size → i < degree g.rules p → marks_of W (move g.rules p i) ≤ j
      → FirstPosition Least (λ x. marks_of W (move g.rules p x)) (degree g.rules p) k → FirstPosition Least (λ x. marks_of V (move g.rules p x)) (degree g.rules p) k
  least_kept p k i lt il h b =
      let kl : k < degree g.rules p = b.within (omega arith) in
      let low : marks_of W (move g.rules p k) ≤ j = omega (arith, b.best i il) in
      let here = same_mark (move g.rules p k) ((sound p lt).1 k kl) low in
      record {
        empty = b.empty;
        within = b.within;
        best = λ x xl. elim (later (move g.rules p x) ((sound p lt).1 x xl)) [ inl e ↦ omega (arith, b.best x xl) | inr d ↦ omega (arith, d.1) ];
        earliest = λ _ x xl same. elim (later (move g.rules p x) ((sound p lt).1 x (omega arith))) [
          | inl e ↦ b.earliest kl x xl (sym e ∙ same ∙ here)
          | inr d ↦ omega (arith, d.1)
        ];
      }

  kept_by : (p k : ℕ) → p < g.size → (s : Player) → g.rules.owner p ≡ s → Ready g.rules (suc j) W p
      → FirstPosition (order_of s) (λ x. marks_of W (move g.rules p x)) (degree g.rules p) k → FirstPosition (order_of s) (λ x. marks_of V (move g.rules p x)) (degree g.rules p) k
  kept_by p k lt Pursuer e (inl r) b = least_kept p k r.1.0 lt r.1.1 (omega (arith, r.1.2)) b
  kept_by p k lt Pursuer e (inr r) b = absurd (not_both (g.rules.owner p) e r.0)
  kept_by p k lt Runner e (inl r) b = absurd (not_both (g.rules.owner p) r.0 e)
  kept_by p k lt Runner e (inr r) b =
      first_same Greatest _ _ (degree g.rules p) k (λ x xl. sym (same_mark (move g.rules p x) ((sound p lt).1 x xl) (omega (arith, r.1 x xl)))) b

  pub best_kept : (p k : ℕ) → p < g.size → Ready g.rules (suc j) W p → Best g.rules (marks_of W) p k → Best g.rules (marks_of V) p k
  best_kept p k lt ready b = kept_by p k lt (g.rules.owner p) refl ready b

  -- a marked place stays as it is
  pub marked_kept : AfterRound g j W → (i : ℕ) → j ≤ i → (p : ℕ) → p < g.size → MarkedAt g j W p → marks_of V p ≡ marks_of W p → moves_of g V p ≡ moves_of g W p → MarkedAt g i V p
  marked_kept after i h p lt y em ew =
      record {
        within = omega (arith, y.within);
        first = subst (λ (k : ℕ). First g.rules p k) (sym em) y.first;
        idle = λ c. ew ∙ y.idle c;
        best = λ c. subst (λ (k : ℕ). Best g.rules (marks_of V) p k) (sym ew) (best_kept p (moves_of g W p) lt (ready_still g sound j small W after p lt y c) (y.best c));
      }

module _ (g : Game) (sound : PlacesSound g) (j : ℕ) (small : suc j < blank) (W V : List ℕ) (after : AfterRound g j W) (round : Rounded g (suc j) W V) where
  round_later : Later g j W V
  round_later q lt = elim (round q lt) [ inl d ↦ inr (d.0, omega (arith, d.2)) | inr d ↦ inl d.1 ]

  -- one round more
  pub next_after : AfterRound g (suc j) V
  next_after p lt =
      let below : j < blank = omega arith in
      elim (after p lt) [
        | inl y ↦ elim (round p lt) [
          | inl d ↦ absurd (omega (arith, y.within, d.0))
          | inr d ↦ inl (marked_kept g sound j below W V round_later after (suc j) (omega arith) p lt y d.1 d.2)
        ]
        | inr n ↦ elim (round p lt) [
          | inl d ↦
              let l : Level g.rules (suc j) p = inr (grows g sound j below W after p lt d.1) in
              let f : First g.rules p (suc j) = (l, λ i h x. n.outside (level_mono g.rules j i p x (omega arith))) in
              inl (record {
                within = omega (arith, d.2);
                first = subst (λ (k : ℕ). First g.rules p k) (sym d.2) f;
                idle = λ c. absurd (n.outside (level_mono g.rules j 0 p c (omega arith)));
                best = λ c. best_kept g sound j below W V round_later p (moves_of g V p) lt d.1 d.3;
              })
          | inr d ↦
              inr (record {
                unmarked = d.1 ∙ n.unmarked;
                outside = λ l. elim l [ inl x ↦ n.outside x | inr f ↦ d.0 n.unmarked (is_ready g sound j below W after j p lt (omega arith) f) ];
                idle = d.2 ∙ n.idle;
              })
        ]
      ]
