use Rattle.theory.proofs.Finite.{marks}
use Rattle.theory.proofs.marks_exist.Goals as goal

pub returns : goal.returns
returns c = marks
