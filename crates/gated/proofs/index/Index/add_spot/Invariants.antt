use Rattle.std.proofs.Common.{◌+◌, ◌*◌, vec_items}
use Rattle.gated.specs.Index.{Listed}
use Rattle.gated.proofs.index.Index.add_spot.Given as goal

abbrev pub invariant-loop-step : goal.invariant-loop-step
invariant-loop-step l = Listed l.period l.gates (l.spot * l.period + l.step) (vec_items l.self.exits) (vec_items l.self.starts)
