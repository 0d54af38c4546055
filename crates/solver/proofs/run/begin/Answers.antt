use Rattle.std.proofs.Common.{subst, sym, ℕ}
use Rattle.arena.specs.Unfit.{Fits}
use Rattle.arena.proofs.Fitting.{misfit}
use Rattle.solver.proofs.Starting.{open_reached}
use Rattle.solver.proofs.run.begin.Goals as goal
use Rattle.solver.proofs.run.begin.Goals.{in-Ok, in-Err}

pub returns-clause-reached : goal.returns-clause-reached
returns-clause-reached g c fits =
    elim c.match-begin_table.branch [
      | in-Ok w ↦ open_reached _ _ _ _ _ (subst (λ (n : ℕ). Fits (g.A.Arena.game c.args.arena.now) n) (sym c.begin_table.auto.table) fits) w.in-Ok.ensures.1 w.phase-is c.default.ensures.0 c.default.ensures.1
      | in-Err w ↦ absurd (misfit _ _ _ w.in-Err.ensures.0 fits)
    ]
