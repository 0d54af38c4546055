use Rattle.std.proofs.Common.{vec_items, ◌++◌, ◌∷◌, [], ap, ◌∙◌, rules}
use Rattle.std.proofs.lemmas.List.{append_assoc}
use Rattle.std.proofs.lemmas.Result.{on_ok_weaker}
use Rattle.std.proofs.lemmas.Iterator.{YieldsList-from_slice}
use Rattle.std.proofs.lemmas.Iterator.Adapters.{items_from_extend}
use Rattle.std.proofs.lemmas.Iterator.Consumers.{YieldsList-from_filter_map}
use Rattle.gated.specs.Exits.{fars}
use Rattle.gated.proofs.Built.{first_far, first_back, fars_mapped}
use Rattle.gated.proofs.index.push_exits.Goals as goal

pub returns : goal.returns
returns c =
    let gates = c.args.gates.now in
    let t = c.args.step in
    let spot = c.args.spot in
    let chain = items_from_extend c.extend.result c.extend.ensures.ran (YieldsList-from_filter_map _ (first_far t spot) (YieldsList-from_slice gates (cc)) c.filter_map.ensures.closure (λ x r q k. search (rules, first_back))) in
    on_ok_weaker c.extend.result
    (λ e. e.0 ∙ ap (λ xs. vec_items c.push.new.self ++ xs) (fars_mapped t spot gates)
    ∙ ap (λ xs. xs ++ fars t spot gates) c.in_ok-push.ensures.items ∙ append_assoc (vec_items c.args.exits.now) (spot ∷ []) (fars t spot gates))
    chain
