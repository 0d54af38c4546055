use Rattle.marks.proofs.Picks.{fold_picks}
use Rattle.marks.proofs.row.pick.Goals as goal

pub returns : goal.returns
returns g c = fold_picks g.W.Wish.order c.args.first c.args.row.now c.fold_row.result c.fold_row.ensures
