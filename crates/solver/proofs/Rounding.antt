-- What a round says of the run, by what it made of the table.
use Rattle.std.proofs.Common.{◌≡◌, ℕ, ◌+◌, ◌<◌, min, true, eqb, List, length, Ok, Err, Result, refl, ap, ◌∙◌, subst, inl, inr, arith, eq-eqb, MatchResult}
use Rattle.arena.specs.Game.{Game}
use Rattle.std.specs.Result.{result_unwrap_or}
use Rattle.arena.specs.Unfit.{Fits, Cause}
use Rattle.arena.specs.declared.unfit.Unfit.{Unfit}
use Rattle.rounds.specs.Rounds.{MarksRound}
use Rattle.rounds.specs.Words.{Rounded, blanks, last_round}
use Rattle.rounds.specs.declared.made.Made.{Made}
use Rattle.solver.specs.State.{State, is_live, is_settled, state, capped, AcceptsRound}
use Rattle.solver.specs.declared.phase.Phase.{Phase}
use Rattle.solver.specs.declared.phase.Phase.TheVariants.{Open}
use Rattle.solver.specs.Reached.{Reached, round}
use Rattle.solver.specs.Progress.{Progress}
use Rattle.arena.proofs.Fitting.{misfit}
use Rattle.solver.proofs.Reaching.{reached_more, reached_progress}

-- a run that is told one round more
pub round_reached : (g : Game) (s t : State) (m : ℕ) → AcceptsRound g s t m → Reached g s → Reached g t × Progress g t
round_reached g s t m accepts reached =
    let more = reached_more g (round m) s t accepts reached in
    (more, reached_progress g t more)

-- a round that is made of a run that is open
pub round_made : (g : Game) (before after : Phase) (W V : List ℕ) (rounds next looks total : ℕ) (made : Made) → before ≡ Open → is_live after ≡ true → is_settled after ≡ eqb made.marked 0 → Fits g (length W)
    → MarksRound g (min next last_round) W V made → length V ≡ length W → next ≡ min (rounds + 1) last_round → total ≡ capped (looks + made.looks)
    → AcceptsRound g (state (is_live before) W rounds looks (is_settled before)) (state (is_live after) V next total (is_settled after)) made.marked
round_made g before after W V rounds next looks total made opened live settled fits marks long number looked =
    let i : min next last_round ≡ next = omega arith in
    rw (opened, live, settled) (record {
      fits = fits;
      made = inr (
        refl,
        record {
          number = number;
          rounded = subst (λ (k : ℕ). Rounded g k W V) i marks.rounded;
          long = long;
          marked = marks.marked;
          looked = looked ∙ ap (λ (x : ℕ). capped (looks + x)) marks.looked;
          ends = refl;
        },
      );
    })

-- the places that a round told an arena that fits has marked: none settles the run, some leave fewer blank marks
pub round_counts : (g : Game) (s t : State) (r : Result ℕ Unfit) (X : Type 0) → Fits g (length s.words) → MatchResult r (AcceptsRound g s t) (λ e. Cause g (length s.words) e × X)
    → (result_unwrap_or r 0 ≡ 0 → t.settled ≡ true) × (0 < result_unwrap_or r 0 → blanks g.size t.words < blanks g.size s.words)
round_counts g s t (Ok m) X fits accepts =
    elim accepts.made [
      | inl same ↦ ((λ z. ap (λ (x : State). x.settled) same.2 ∙ same.0), (λ l. absurd (omega (arith, same.1))))
      | inr made ↦ ((λ z. made.1.ends ∙ eq-eqb m 0 z), (λ l. omega (arith, made.1.marked)))
    ]
round_counts g s t (Err e) X fits refused = absurd (misfit g (length s.words) e refused.0 fits)
