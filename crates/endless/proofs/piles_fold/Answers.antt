use Rattle.endless.proofs.Piling.{piles_fold}
use Rattle.endless.proofs.piles_fold.Goals as goal

pub returns : goal.returns
returns c = piles_fold
