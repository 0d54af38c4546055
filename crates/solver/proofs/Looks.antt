-- The looks of a round, by the marks that the places come to have.
use Rattle.std.proofs.Common.{◌≡◌, ℕ, zero, suc, ◌<◌, ◌≤◌, cond, leb, List, refl, inl, inr, arith, lt→ltb}
use native.Mathlib.Decide.{dec_lt, dec_le}
use Rattle.std.proofs.lemmas.Bool.Decides.{nat_tests}
use Rattle.arena.specs.Game.{Game, degree, places}
use Rattle.arena.specs.Levels.{ByLevels}
use Rattle.theory.proofs.Levels.{level_mono}
use Rattle.marks.specs.Marks.{blank, never}
use Rattle.rounds.specs.Words.{looks_of, marks_of}
use Rattle.rounds.proofs.Counts.{weight_blank, weight_other}
use Rattle.solver.specs.Reached.{MarkedAt, OpenAt, AfterRound}
use Rattle.solver.specs.Whole.{moves_from}
use Rattle.solver.proofs.Levels.{first_once}

weight_from : (i m d : ℕ) → i ≤ m → cond (leb i m) d 0 ≡ d
weight_from i m d h = grind (arith, nat_tests)

weight_before : (i m d : ℕ) → m < i → cond (leb i m) d 0 ≡ 0
weight_before i m d h = grind (arith, nat_tests)

module _ (g : Game) (i : ℕ) (small : i < blank) (W : List ℕ) (after : AfterRound g i W) (μ : ℕ → ℕ) (levels : ByLevels g.rules (places g) μ) where
  -- a place is blank after i rounds exactly if its mark is above i
  marked_low : (p : ℕ) → p < g.size → MarkedAt g i W p → μ p ≤ i
  marked_low p lt y =
      elim (dec_lt (μ p) never) [
        | yes n ↦ let e = first_once g.rules p (μ p) (marks_of W p) (levels.count p (lt→ltb p g.size lt) n) y.first in omega (arith, y.within)
        | no z ↦ absurd (levels.none_holds p (lt→ltb p g.size lt) (omega arith) (marks_of W p) y.first.0)
      ]

  open_high : (p : ℕ) → p < g.size → OpenAt g i W p → suc i ≤ μ p
  open_high p lt n =
      elim (dec_le (suc i) (μ p)) [
        | yes y ↦ y
        | no z ↦ absurd (n.outside (level_mono g.rules i (μ p) p (levels.count p (lt→ltb p g.size lt) (omega arith)).0 (omega arith)))
      ]

  pub looks_are : (n : ℕ) → n ≤ g.size → looks_of g.rules n W ≡ moves_from g.rules μ (suc i) n
  looks_are zero le = refl
  looks_are (suc n) le =
      let rest = looks_are n (omega arith) in
      elim (after n (omega arith)) [
        | inl y ↦
            let a = weight_other (marks_of W n) (degree g.rules n) (λ e. omega (arith, y.within)) in
            let b = weight_before (suc i) (μ n) (degree g.rules n) (omega (arith, marked_low n (omega arith) y)) in
            rw (a, b, rest)
        | inr o ↦
            let a = weight_blank (marks_of W n) (degree g.rules n) o.unmarked in
            let b = weight_from (suc i) (μ n) (degree g.rules n) (open_high n (omega arith) o) in
            rw (a, b, rest)
      ]
