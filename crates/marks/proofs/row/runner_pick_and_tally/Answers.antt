use Rattle.marks.specs.Picks.{Greatest}
use Rattle.marks.proofs.Picks.{fold_picks}
use Rattle.marks.proofs.Tallies.{tally_tallies}
use Rattle.marks.proofs.row.runner_pick_and_tally.Goals as goal

pub returns : goal.returns
returns c =
    let both = c.fold_both in
    record {
      picked = fold_picks Greatest 0 c.args.row.now both.result.first both.ensures.left;
      tallied = tally_tallies 0 c.args.row.now both.result.second both.ensures.right;
    }
