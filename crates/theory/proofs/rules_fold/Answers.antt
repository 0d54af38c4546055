use Rattle.theory.proofs.Cover.{rules_up}
use Rattle.theory.proofs.rules_fold.Goals as goal

pub returns : goal.returns
returns c = λ R' R φ D μ w folds closed. rules_up R' R φ folds D closed μ w
