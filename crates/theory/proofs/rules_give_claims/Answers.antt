use Rattle.theory.proofs.Global.{claims}
use Rattle.theory.proofs.rules_give_claims.Goals as goal

pub returns : goal.returns
returns c = claims
