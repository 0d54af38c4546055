use Rattle.std.proofs.Common.{take}
use Rattle.board.specs.Clock.{Period}
use Rattle.board.proofs.clock.period_of.Given as goal

abbrev pub invariant-loop-gate : goal.invariant-loop-gate
invariant-loop-gate l = Period (take l.gate-index l.gates) l.period
