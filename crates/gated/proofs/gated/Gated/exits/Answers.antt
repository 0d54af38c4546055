use Rattle.std.proofs.Common.{length, ap, arith}
use Rattle.gated.proofs.Rows.{start_in, row_within, row_read}
use Rattle.gated.proofs.gated.Gated.exits.Goals as goal

pub index-requires : goal.index-requires
index-requires c =
    omega (arith, start_in c.args.self.now c.args.at.now c.requires _ _ c.mover.ensures c.period.ensures, c.args.self.now.index.starts.ok.0)

pub index-requires-2 : goal.index-requires-2
index-requires-2 c =
    omega (arith, start_in c.args.self.now c.args.at.now c.requires _ _ c.mover.ensures c.period.ensures, c.args.self.now.index.starts.ok.0)

pub slice_bounds-result-count : goal.slice_bounds-result-count
slice_bounds-result-count c =
    omega (arith, (row_within c.args.self.now c.args.at.now c.requires _ _ c.mover.ensures c.period.ensures _ _ c.index.ensures c.index-2.ensures).0)

pub slice_bounds-result-start : goal.slice_bounds-result-start
slice_bounds-result-start c =
    omega (arith, (row_within c.args.self.now c.args.at.now c.requires _ _ c.mover.ensures c.period.ensures _ _ c.index.ensures c.index-2.ensures).0)

pub slice_bounds-result-end : goal.slice_bounds-result-end
slice_bounds-result-end c =
    omega (arith, (row_within c.args.self.now c.args.at.now c.requires _ _ c.mover.ensures c.period.ensures _ _ c.index.ensures c.index-2.ensures).1, ap length c.deref.ensures.value)

pub returns : goal.returns
returns c =
    rw c.deref.ensures.value (row_read c.args.self.now c.args.at.now c.requires _ _ c.mover.ensures c.period.ensures _ _ c.index.ensures c.index-2.ensures)
