use Rattle.solver.proofs.Ending.{ended, settled_ends}
use Rattle.solver.proofs.run.Run.close.Goals as goal

pub returns : goal.returns
returns g c =
    let e = c.end_table.ensures in
    (settled_ends _ c.args.self _ _ (ended _ _ _ _ c.end_table.auto.table e.decided e.finished e.cleared e.untouched) c.requires.reached c.requires.settled).1
