use Rattle.endless.proofs.Folding.{folded}
use Rattle.endless.proofs.endless_folds.Goals as goal

pub returns : goal.returns
returns c = folded
