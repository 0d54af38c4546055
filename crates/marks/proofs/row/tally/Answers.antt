use Rattle.marks.proofs.Tallies.{tally_tallies}
use Rattle.marks.proofs.row.tally.Goals as goal

pub returns : goal.returns
returns c = tally_tallies 0 c.args.row.now c.fold_row.result c.fold_row.ensures
