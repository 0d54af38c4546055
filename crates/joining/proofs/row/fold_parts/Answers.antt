use Rattle.joining.proofs.Folds.{total_cut}
use Rattle.joining.proofs.row.fold_parts.Goals as goal

pub returns-clause-whole : goal.returns-clause-whole
returns-clause-whole g c =
    let here = total_cut g.met.J.Joining.lawful c.args.first c.args.front.now c.args.back.now in
    cc

pub returns-clause-cut : goal.returns-clause-cut
returns-clause-cut g c = total_cut g.met.J.Joining.lawful
