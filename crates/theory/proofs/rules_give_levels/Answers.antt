use Rattle.theory.proofs.Levels.{by_levels}
use Rattle.theory.proofs.rules_give_levels.Goals as goal

pub returns : goal.returns
returns c = by_levels
