use Rattle.gated.proofs.Sounds.{inverse}
use Rattle.gated.proofs.laws.numbers_inverse.Goals as goal

pub returns : goal.returns
returns c = inverse
