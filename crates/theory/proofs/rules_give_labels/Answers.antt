use Rattle.theory.proofs.Labels.{labelled}
use Rattle.theory.proofs.rules_give_labels.Goals as goal

pub returns : goal.returns
returns c = labelled
