use Rattle.trap.proofs.Exclude.{unlawful, once}
use Rattle.trap.proofs.trapped.refusals_exclude.Goals as goal

pub returns : goal.returns
returns c = λ g bytes. (unlawful g bytes, once g bytes)
