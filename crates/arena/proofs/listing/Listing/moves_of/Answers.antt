use Rattle.std.proofs.Common.{rules}
use Rattle.arena.proofs.Parting.{next_starts}
use Rattle.arena.proofs.listing.Listing.moves_of.Goals as goal

pub slice_bounds-result-end : goal.slice_bounds-result-end
slice_bounds-result-end c =
    let got = c.in_ok-get.ensures.lookup.0 in
    let next = next_starts _ _ _ _ c.args.place got.2 got.3 c.in-len2-up.len_at_least c.args.self.now.lawful.1 in
    search rules

pub returns : goal.returns
returns c =
    let got = c.in_ok-get.ensures.lookup.0 in
    let next = next_starts _ _ _ _ c.args.place got.2 got.3 c.in-len2-up.len_at_least c.args.self.now.lawful.1 in
    let from = next.1 in
    let to = next.2 in
    (next.0, cc)
