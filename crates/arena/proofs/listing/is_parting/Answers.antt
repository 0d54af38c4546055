use Rattle.std.proofs.Common.{arith}
use Rattle.arena.proofs.Parting.{asked_parts}
use Rattle.arena.proofs.listing.is_parting.Goals as goal

pub returns : goal.returns
returns c =
    let ends = c.in-Some-Some in
    asked_parts _ _ c.args.starts.now ends.first.now ends.end.now c.is_sorted.result c.is_sorted.ensures.cases ends.ensures.value ends.ensures'.value (omega arith) (omega arith) (omega arith)
