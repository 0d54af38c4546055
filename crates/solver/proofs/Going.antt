-- Rounds that each marked some place, and the one that marked none.
use Rattle.std.proofs.Common.{◌≡◌, ℕ, suc, ◌+◌, ◌*◌, ◌<◌, ◌≤◌, List, sym, refl, subst, inl, inr, arith}
use native.Mathlib.Decide.{dec_lt}
use Rattle.arena.specs.Game.{Game, places}
use Rattle.arena.specs.Levels.{Level, First, ByLevels}
use Rattle.arena.specs.Sound.{PlacesSound}
use Rattle.theory.proofs.Levels.{level_mono}
use Rattle.theory.proofs.Stable.{settled}
use Rattle.marks.specs.Marks.{blank}
use Rattle.rounds.specs.Words.{Begun, Rounded, Finished, blanks, looks_of}
use Rattle.rounds.proofs.Counts.{blanks_most, looks_most, none_ready, some_marked}
use Rattle.solver.specs.Reached.{AfterRound}
use Rattle.solver.specs.Whole.{Whole, looks_sum}
use Rattle.solver.proofs.Levels.{begun_after, stays}
use Rattle.solver.proofs.Kept.{next_after}
use Rattle.solver.proofs.Looks.{looks_are}
use Rattle.solver.proofs.Closing.{whole}

-- each level up to j grew
abbrev pub Grew : Game → ℕ → Type 0
Grew g j = (i : ℕ) → i < j → (p : ℕ) × (p < g.size) × First g.rules p (suc i)

-- the looks are the sum of their first r terms
abbrev pub Looked : Game → ℕ → ℕ → Type 0
Looked g r l = (μ : ℕ → ℕ) → ByLevels g.rules (places g) μ → l ≡ looks_sum g μ r

-- after j rounds, each of which marked some place
pub record Going (g : Game) (j l : ℕ) (W : List ℕ) : Type 0 where
  pub after : AfterRound g j W
  pub grew : Grew g j
  pub bound : j + blanks g.size W ≤ g.size
  pub looked : Looked g j l
  pub few : l ≤ 68718428160 * j

-- after one round more, which marked none
pub record Over (g : Game) (r l : ℕ) (W : List ℕ) : Type 0 where
  pub last : ℕ
  pub number : r ≡ suc last
  pub after : AfterRound g r W
  pub top : (i p : ℕ) → p < g.size → Level g.rules i p → Level g.rules last p
  pub grew : Grew g last
  pub bound : last ≤ g.size
  pub looked : Looked g r l

pub going_start : (g : Game) (W : List ℕ) → Begun g W → Going g 0 0 W
going_start g W b = record {
  after = begun_after g W b;
  grew = λ i h. absurd (omega arith);
  bound = omega (arith, blanks_most g.size W);
  looked = λ μ _. refl;
  few = omega arith;
}

module _ (g : Game) (sound : PlacesSound g) (sized : g.size ≤ 1048576) (j l : ℕ) (W : List ℕ) (going : Going g j l W) (V : List ℕ) (round : Rounded g (suc j) W V) where
  small : suc j < blank
  small = omega (arith, going.bound)

  low : j < blank
  low = omega (arith, going.bound)

  more : Looked g (suc j) (l + looks_of g.rules g.size W)
  more μ levels =
      let a = going.looked μ levels in
      let b = looks_are g j low W going.after μ levels g.size (omega arith) in
      rw (a, b)

  pub going_more : blanks g.size V < blanks g.size W → Going g (suc j) (l + looks_of g.rules g.size W) V
  going_more fewer =
      let next : AfterRound g (suc j) V = next_after g sound j small W V going.after round in record {
        after = next;
        grew = λ i h. elim (dec_lt i j) [
          | yes y ↦ going.grew i y
          | no z ↦
              let (p, lt, e) = some_marked g (suc j) small W V round fewer in
              let same : i ≡ j = omega arith in (
                p,
                lt,
                subst (λ (k : ℕ). First g.rules p (suc k)) (sym same) (elim (next p lt) [
                  | inl y ↦ subst (λ (k : ℕ). First g.rules p k) e y.first
                  | inr n ↦ absurd (omega (arith, n.unmarked))
                ]),
              )
        ];
        bound = omega (arith, going.bound);
        looked = more;
        few = omega (arith, going.few, looks_most g sound g.size (omega arith) W);
      }

  pub going_over : blanks g.size V ≡ blanks g.size W → Over g (suc j) (l + looks_of g.rules g.size W) V
  going_over same = record {
    last = j;
    number = refl;
    after = next_after g sound j small W V going.after round;
    top = settled g sound j (stays g sound j low W going.after (none_ready g (suc j) small W V round same));
    grew = going.grew;
    bound = omega (arith, going.bound);
    looked = more;
  }

pub over_whole : (g : Game) → PlacesSound g → g.size ≤ 1048576 → (r l : ℕ) (W V : List ℕ) → Over g r l W → Finished g W V → Whole g r l V
over_whole g sound sized r l W V over finish =
    whole g sound r (omega (arith, over.number, over.bound)) W over.after
    (λ i p lt x. level_mono g.rules r over.last p (over.top i p lt x) (omega (arith, over.number)))
    V finish over.last l over.top over.grew over.number over.looked
