use Rattle.std.proofs.Common.{ℕ, subst, arith}
use Rattle.board.specs.Clock.{LeastCommon}
use Rattle.board.proofs.Clocks.{period_more, period_small}
use Rattle.board.proofs.clock.period_of.Goals as goal

pub least_common-period-requires-clause-a_bound : goal.least_common-period-requires-clause-a_bound
least_common-period-requires-clause-a_bound c = period_small _ _ c.loop-gate.invariant

pub loop-gate-preserved : goal.loop-gate-preserved
loop-gate-preserved c =
    period_more c.args.gates.now c.loop-gate.gate-index c.gate-item.result c.loop-gate.period c.least_common-period.result (omega arith) c.gate-item.is c.loop-gate.invariant
    (subst (λ (s : ℕ). LeastCommon c.loop-gate.period s c.least_common-period.result) c.steps.ensures c.least_common-period.ensures)
