use Rattle.theory.proofs.Levels.{local}
use Rattle.theory.proofs.levels_give_rules.Goals as goal

pub returns : goal.returns
returns c = local
