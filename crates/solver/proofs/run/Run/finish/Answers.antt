use Rattle.solver.proofs.Ending.{ended}
use Rattle.solver.proofs.run.Run.finish.Goals as goal

pub returns-clause-ended : goal.returns-clause-ended
returns-clause-ended g c =
    let e = c.end_table-accepted.ensures in
    ended _ _ _ _ c.end_table-accepted.auto.table e.decided e.finished e.cleared e.untouched
