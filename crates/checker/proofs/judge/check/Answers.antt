use Rattle.checker.proofs.Judging.{accepted, faulty}
use Rattle.checker.proofs.judge.check.Goals as goal

pub returns-in-Some : goal.returns-in-Some
returns-in-Some g c = faulty _ _ c.in_ok-admitted.ensures _ c.in-Some.ensures

pub returns-in-None : goal.returns-in-None
returns-in-None g c = accepted _ _ c.in_ok-admitted.ensures c.in-None.ensures
