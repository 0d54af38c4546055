use Rattle.arena.proofs.Fitting.{misfit, once}
use Rattle.arena.proofs.admit.refusals_exclude.Goals as goal

pub returns : goal.returns
returns c = λ g words. (misfit g words, once g words)
