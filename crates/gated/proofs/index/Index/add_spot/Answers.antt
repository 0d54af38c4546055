use Rattle.std.proofs.Common.{◌+◌, ◌*◌, vec_items, ◌∙◌, add-mul, one-mul, arith}
use Rattle.gated.proofs.Built.{listed_few, near_few, listed_more}
use Rattle.gated.proofs.index.Index.add_spot.Goals as goal

pub add_row-requires : goal.add_row-requires
add_row-requires c =
    let T = c.args.period in
    let gates = c.args.gates.now in record {
      exits_len_bound = omega (arith, listed_few T gates c.requires.gates_len_bound (c.args.spot * T + c.loop-step.step) (vec_items c.loop-step.self.exits) (vec_items c.loop-step.self.starts) c.loop-step.invariant, c.requires.period_bound, add-mul c.args.spot 1 T, one-mul T);
      near_len_bound = omega (arith, near_few c.args.spot gates c.as_slice.result.now (c.as_slice.ensures.value ∙ c.in_ok-near.ensures), c.requires.gates_len_bound);
    }

pub loop-step-preserved : goal.loop-step-preserved
loop-step-preserved c =
    listed_more c.args.period c.args.gates.now c.loop-step.step c.args.spot c.loop-step-test.true c.as_slice.result.now (c.as_slice.ensures.value ∙ c.in_ok-near.ensures)
    (vec_items c.loop-step.self.exits) (vec_items c.loop-step.self.starts) (vec_items c.add_row.new.self.exits) (vec_items c.add_row.new.self.starts)
    c.loop-step.invariant c.in_ok-add_row.ensures.0 c.in_ok-add_row.ensures.1
