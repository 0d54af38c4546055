use Rattle.theory.proofs.Back.{rules}
use Rattle.theory.proofs.claims_give_rules.Goals as goal

pub returns : goal.returns
returns c = rules
