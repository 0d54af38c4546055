use Rattle.theory.proofs.Below.{counts_below}
use Rattle.theory.proofs.counts_below.Goals as goal

pub returns : goal.returns
returns c = counts_below
