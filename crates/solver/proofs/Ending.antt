-- How a run ends, by what became of its table.
use Rattle.std.proofs.Common.{◌≡◌, ℕ, Bool, true, false, cond, List, [], length, Decides, sym, refl, ap, subst}
use Rattle.arena.specs.Game.{Game}
use Rattle.arena.specs.Unfit.{Fits}
use Rattle.rounds.specs.Words.{Finished, fresh}
use Rattle.solver.specs.State.{live_of, state_of}
use Rattle.solver.specs.Ended.{Ended}
use Rattle.solver.specs.Reached.{Reached}
use Rattle.solver.specs.Whole.{Whole}
use Rattle.solver.specs.declared.run.Run.{Run}
use Rattle.solver.proofs.Starting.{none_fits}
use Rattle.solver.proofs.Reaching.{reached_holds, reached_whole}

live_if : (g : Game) (live : Bool) (W : List ℕ) → Fits g (length (cond live W [])) → live ≡ true
live_if g true W fits = refl
live_if g false W fits = absurd (none_fits g fits)

-- a run that fits some arena is live, and works on its table
pub live_words : (g : Game) (run : Run) → Fits g (length (state_of run).words) → live_of run ≡ true
live_words g run fits = live_if g (live_of run) run.table.now fits

pub words_are : (run : Run) → live_of run ≡ true → (state_of run).words ≡ run.table.now
words_are run e = ap (λ (b : Bool). cond b run.table.now []) e

pub ended : (g : Game) (run : Run) (V : List ℕ) (accepted : Bool) → length V ≡ length run.table.now
    → Decides accepted ((live_of run ≡ true) × Fits g (length run.table.now) × ((state_of run).settled ≡ true)) → (accepted ≡ true → Finished g run.table.now V)
    → (live_of run ≡ true → accepted ≡ false → V ≡ fresh (length run.table.now)) → (live_of run ≡ false → V ≡ run.table.now)
    → Ended g run V accepted
ended g run V accepted long decides finished cleared untouched =
    record {
      long = long;
      decided = (
        (λ a.
            let (l, fits, s) = decides.0 a in
            (subst (λ (X : List ℕ). Fits g (length X)) (sym (words_are run l)) fits, s)),
        (λ (fits, s).
            let l = live_words g run fits in
            decides.1 (l, subst (λ (X : List ℕ). Fits g (length X)) (words_are run l) fits, s)),
      );
      finished = finished;
      cleared = cleared;
      untouched = untouched;
      whole = λ a reached.
          let (l, fits, s) = decides.0 a in
          reached_whole g (state_of run) V reached s (subst (λ (X : List ℕ). Finished g X V) (sym (words_are run l)) (finished a));
    }

-- a settled run that was told one arena throughout is finished, and its table makes the whole claim
pub settled_ends : (g : Game) (run : Run) (V : List ℕ) (accepted : Bool) → Ended g run V accepted → Reached g (state_of run) → (state_of run).settled ≡ true
    → (accepted ≡ true) × Whole g run.made.rounds run.made.looks V
settled_ends g run V accepted e reached settled =
    let accepts = e.decided.1 ((reached_holds g _ reached).fits, settled) in
    (accepts, e.whole accepts reached)
