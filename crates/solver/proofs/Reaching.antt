-- What holds of every run that is told one arena throughout.
use Rattle.std.proofs.Common.{◌≡◌, ℕ, suc, ◌+◌, true, false, ◌⊎◌, List, [], ◌∷◌, length, sym, refl, ◌∙◌, subst, inl, inr, arith, eq-eqb, ne_eqb}
use native.Mathlib.Decide.{dec_lt}
use Rattle.arena.specs.Game.{Game}
use Rattle.arena.specs.Unfit.{Fits}
use Rattle.theory.proofs.Plays.{not_clash}
use Rattle.rounds.specs.Words.{Begun, Rounded, Finished, looks_of}
use Rattle.rounds.proofs.Counts.{looks_most}
use Rattle.solver.specs.State.{State, start, MakesRound, AcceptsRound}
use Rattle.solver.specs.Reached.{Call, round, finish, Answers, AfterCalls, Reached}
use Rattle.solver.specs.Whole.{Whole}
use Rattle.solver.specs.Progress.{Progress}
use Rattle.solver.proofs.Going.{Going, Over, going_start, going_more, going_over, over_whole}

-- the run goes on, or is over
pub record Holds (g : Game) (s : State) : Type 0 where
  pub fits : Fits g (length s.words)
  pub way : ((s.settled ≡ false) × Going g s.rounds s.looks s.words) ⊎ ((s.settled ≡ true) × Over g s.rounds s.looks s.words)

holds_start : (g : Game) (W : List ℕ) → Fits g (length W) → Begun g W → Holds g (start W)
holds_start g W fits b = record { fits = fits; way = inl (refl, going_start g W b) }

module _ (g : Game) (s t : State) (m : ℕ) (fits : Fits g (length s.words)) (going : Going g s.rounds s.looks s.words) (made : MakesRound g s t m) where
  rounds_are : t.rounds ≡ suc s.rounds
  rounds_are = omega (arith, made.number, going.bound, fits.sized.1)

  looks_are_exact : t.looks ≡ s.looks + looks_of g.rules g.size s.words
  looks_are_exact =
      omega (arith, made.looked, going.few, going.bound, fits.sized.1, looks_most g fits.sound g.size (omega arith) s.words)

  made_holds : Holds g t
  made_holds =
      let fit : Fits g (length t.words) = subst (λ (n : ℕ). Fits g n) (sym made.long) fits in
      let round : Rounded g (suc s.rounds) s.words t.words = subst (λ (i : ℕ). Rounded g i s.words t.words) rounds_are made.rounded in
      elim (dec_lt 0 m) [
        | yes y ↦
            let go = going_more g fits.sound fits.sized.1 _ _ _ going t.words round (omega (arith, made.marked)) in
            record {
              fits = fit;
              way = inl (
                made.ends ∙ ne_eqb m 0 (λ e. omega arith),
                subst (λ (r : ℕ). Going g r t.looks t.words) (sym rounds_are) (subst (λ (l : ℕ). Going g (suc s.rounds) l t.words) (sym looks_are_exact) go),
              );
            }
        | no z ↦
            let go = going_over g fits.sound fits.sized.1 _ _ _ going t.words round (omega (arith, made.marked)) in
            record {
              fits = fit;
              way = inr (
                made.ends ∙ eq-eqb m 0 (omega arith),
                subst (λ (r : ℕ). Over g r t.looks t.words) (sym rounds_are) (subst (λ (l : ℕ). Over g (suc s.rounds) l t.words) (sym looks_are_exact) go),
              );
            }
      ]

round_holds : (g : Game) (s t : State) (m : ℕ) → Holds g s → AcceptsRound g s t m → Holds g t
round_holds g s t m holds accepts =
    elim accepts.made [
      | inl same ↦ subst (Holds g) (sym same.2) holds
      | inr made ↦ elim holds.way [
        | inl go ↦ made_holds g s t m accepts.fits go.1 made.1
        | inr over ↦ absurd (not_clash s.settled over.0 made.0)
      ]
    ]

calls_hold : (g : Game) (calls : List Call) (t : State) → AfterCalls g calls t → Holds g t
calls_hold g [] t (W, fits, b, e) = subst (Holds g) (sym e) (holds_start g W fits b)
calls_hold g (round m ∷ calls) t (s, before, accepts) = round_holds g s t m (calls_hold g calls s before) accepts
calls_hold g (finish e ∷ calls) t (s, before, kept) = subst (Holds g) (sym kept.1) (calls_hold g calls s before)

pub reached_holds : (g : Game) (s : State) → Reached g s → Holds g s
reached_holds g s (calls, after) = calls_hold g calls s after

-- one call more
pub reached_more : (g : Game) (call : Call) (s t : State) → Answers g call s t → Reached g s → Reached g t
reached_more g call s t answers (calls, before) = (call ∷ calls, (s, before, answers))

pub reached_progress : (g : Game) (s : State) → Reached g s → Progress g s
reached_progress g s reached =
    elim (reached_holds g s reached).way [
      | inl go ↦ record { after = go.1.after; looked = go.1.looked }
      | inr over ↦ record { after = over.1.after; looked = over.1.looked }
    ]

-- a run that stays as it is
pub reached_kept : (g : Game) (s : State) → Reached g s → Reached g s × Progress g s
reached_kept g s reached = (reached, reached_progress g s reached)

pub reached_whole : (g : Game) (s : State) (V : List ℕ) → Reached g s → s.settled ≡ true → Finished g s.words V → Whole g s.rounds s.looks V
reached_whole g s V reached settled done =
    let holds = reached_holds g s reached in
    elim holds.way [
      | inl go ↦ absurd (not_clash s.settled settled go.0)
      | inr over ↦ over_whole g holds.fits.sound holds.fits.sized.1 _ _ _ V over.1 done
    ]
