use Rattle.std.proofs.Common.{◌≡◌, ℕ, ◌+◌, length, Err, ap, ◌∙◌, inl, inr, arith, rules}
use Rattle.std.proofs.lemmas.Result.{MatchResult-weaker, err_from_is_err_and}
use Rattle.board.specs.declared.gate.Gate.{Gate}
use Rattle.lines.specs.declared.refusal.Layer.TheVariants.{Pattern}
use Rattle.lines.specs.declared.refusal.Told.{Told}
use Rattle.lines.specs.Values.{decimal}
use Rattle.sheet.specs.Parts.{gate_refusal}
use Rattle.sheet.proofs.Gating.{pattern_shut, pattern_opens, row_is, gate_taken}
use Rattle.sheet.proofs.reading.Reading.add_gate.Goals as goal

pub returns-in_default : goal.returns-in_default
returns-in_default c =
    let from = c.number-from.ensures.field c.requires.formed.0 in
    let to = c.number-to.ensures.field c.requires.formed.1.0 in
    let here : c.args.p.offset ≡ c.args.at + (5 + length c.args.u.bytes.now + length c.args.v.bytes.now) = omega (arith, c.requires.laid.1.1.0) in
    let tells : ℕ → Told = λ o. record { number = 3; offset = o; layer = Pattern } in
    inr (λ h. omega arith, inr (λ h. omega arith, inl (pattern_shut _ _ _ c.requires.formed.1.1.0 c.bits.ensures c.in_default.ensures, ap tells here)))

pub returns : goal.returns
returns c =
    let u = c.args.u.bytes.now in
    let v = c.args.v.bytes.now in
    let p = c.args.p.bytes.now in
    let g : Gate = record { from = c.number-from.result; to = c.number-to.result; pattern = c.in-Ok.pattern } in
    let from : g.from ≡ decimal u = c.number-from.ensures.field c.requires.formed.0 in
    let to : g.to ≡ decimal v = c.number-to.ensures.field c.requires.formed.1.0 in
    let bits = c.bits.ensures.field c.requires.formed.1.1.0 in
    let made = c.in-Ok.ensures in
    let answered = MatchResult-weaker c.add.result {Q' = λ why. c.map_err.result ≡ Err (gate_refusal why c.args.at)} c.map_err.ensures.cases (λ x e. e) (λ why e.
    let q = err_from_is_err_and c.map_err.result e in
    let told : q.0 ≡ gate_refusal why c.args.at = search rules in
    q.1 ∙ ap (λ w. Err w) told) in
    gate_taken _ _ _ _ _ g u v p c.args.at c.add.result c.map_err.result from to (row_is u v p g from to (made.1 ∙ bits) made.2) (omega arith) (omega arith) (pattern_opens p _ bits made.0) c.add.ensures.spots c.add.ensures.gates answered
