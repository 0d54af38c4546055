use Rattle.theory.proofs.Back.{rules}
use Rattle.theory.proofs.Cover.{claims_up}
use Rattle.theory.proofs.claims_fold.Goals as goal

pub returns : goal.returns
returns c = λ R' R φ D μ w folds closed cl. claims_up R' R φ folds D closed μ w (rules R D μ w closed cl)
