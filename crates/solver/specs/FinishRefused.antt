-- When a run may be finished, and why not.
use Rattle.std.specs.Prelude.{◌≡◌, ℕ, true, false, List, [], length}
use Rattle.arena.specs.Game.{Game}
use Rattle.arena.specs.Unfit.{Fits, Cause, told as told_unfit}
use Rattle.solver.specs.State.{State}
use Rattle.solver.specs.declared.finish_refusal.FinishRefusal.{FinishRefusal}
use Rattle.solver.specs.declared.finish_refusal.FinishRefusal.TheVariants.{Misfit, Unsettled}

-- the arena told and the run's words fit, and the run is settled
abbrev pub MayFinish : Game → State → Type 0
MayFinish g s = Fits g (length s.words) × (s.settled ≡ true)

-- the number of each refusal, and its values
abbrev pub told : FinishRefusal → ℕ × List ℕ
told (Misfit u) = told_unfit u
told Unsettled = (18, [])

-- why a finish is refused; each cause only where those before it are absent
abbrev pub CauseOpen : Game → State → FinishRefusal → Type 0
CauseOpen g s (Misfit u) = Cause g (length s.words) u
CauseOpen g s Unsettled = Fits g (length s.words) × (s.settled ≡ false)
