use Rattle.std.proofs.Common.{vec_items, arith}
use Rattle.gated.proofs.Built.{row_few}
use Rattle.gated.proofs.index.Index.add_row.Goals as goal

pub overflow_cast-len : goal.overflow_cast-len
overflow_cast-len c =
    let exits = c.push_exits.new.exits in
    omega (arith, c.len.ensures, exits.ok.0, row_few c.args.step c.args.spot c.args.near.now (vec_items c.args.self.now.exits) (vec_items exits) c.in_ok-push_exits.ensures, c.requires.exits_len_bound, c.requires.near_len_bound)
