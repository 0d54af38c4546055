use Rattle.std.proofs.Common.{◌*◌, vec_items}
use Rattle.board.specs.Boards.{period_of, gates_of}
use Rattle.gated.specs.Index.{Listed}
use Rattle.gated.proofs.index.Index.of.Given as goal

abbrev pub invariant-loop-spot : goal.invariant-loop-spot
invariant-loop-spot l = Listed (period_of l.board) (gates_of l.board) (l.spot * period_of l.board) (vec_items l.index.exits) (vec_items l.index.starts)
