use Rattle.endless.proofs.Trapping.{traps_fold}
use Rattle.endless.proofs.traps_fold.Goals as goal

pub returns : goal.returns
returns c = traps_fold
