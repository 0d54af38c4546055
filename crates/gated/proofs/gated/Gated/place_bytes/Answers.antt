use Rattle.std.proofs.Common.{◌≡◌, ◌*◌, ◌/◌, ◌<◌, map, vec_items, ap, ◌∙◌}
use Rattle.std.proofs.Math.Nat.{mul-div_left}
use Rattle.std.proofs.lemmas.Result.{IfOk-weaker}
use Rattle.std.specs.List.{each_same, range_with_len, repeat}
use Rattle.board.specs.Boards.{spots_of, period_of}
use Rattle.gated.specs.Traps.{spot_byte}
use Rattle.gated.proofs.Trapping.{rows_repeat}
use Rattle.gated.proofs.gated.Gated.place_bytes.Goals as goal

pub returns : goal.returns
returns c =
    let g = spot_byte c.args.traps.now in
    let n = spots_of c.args.self.now.board in
    let k = period_of c.args.self.now.board * 2 * n in
    let some : 0 < n = c.args.self.now.board.draft.sized.0 in
    let row : c.deref.result.now ≡ map g (range_with_len 0 n) =
    c.deref.ensures.value ∙ c.in_ok-row.ensures ∙ ap (λ m. map g (range_with_len 0 m)) c.spots.ensures in
    let spots : c.from.result ≡ n = c.from.ensures ∙ c.spots-2.ensures in
    let rows : c.places.result / c.from.result ≡ k = ap (λ m. c.places.result / m) spots ∙ ap (λ m. m / n) c.places.ensures ∙ mul-div_left k some in
    IfOk-weaker c.repeat.result _ _ (λ v h. each_same _ (vec_items v) h ∙ ap (λ j. repeat j c.deref.result.now) rows ∙ ap (repeat k) row ∙ rows_repeat g n k) c.repeat.ensures.items
