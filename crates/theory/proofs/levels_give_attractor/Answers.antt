use Rattle.theory.proofs.Levels.{attractor}
use Rattle.theory.proofs.levels_give_attractor.Goals as goal

pub returns : goal.returns
returns c = attractor
