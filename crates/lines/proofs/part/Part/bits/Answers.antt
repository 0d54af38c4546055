use Rattle.std.proofs.Common.{◌≡◌, ◌≤◌, length, take, reverse, fold, arith, length-take, rules}
use Rattle.std.proofs.lemmas.Iterator.Adapters.{YieldsList-from_rev_slice}
use Rattle.std.proofs.lemmas.List.{length-reverse}
use Rattle.lines.proofs.Numerals.{doubled, doubles, stepped}
use Rattle.lines.proofs.part.Part.bits.Goals as goal

pub fold-requires-clause-callable : goal.fold-requires-clause-callable
fold-requires-clause-callable c =
    let p = take c.min-most.result c.args.self.bytes.now in
    let road = YieldsList-from_rev_slice {s = c.rev.result} p (cc) in
    let few : length (reverse p) ≤ 32 = omega (arith, c.min-most.ensures, length-reverse p, length-take c.min-most.result c.args.self.bytes.now) in
    doubles _ (λ y. y.now) _ _ c.rev.result tt (reverse p) road.runs few (λ q r x turn. search rules) (λ q x below. search rules)

pub returns : goal.returns
returns c =
    let read : c.fold.result ≡ fold doubled 0 (reverse (take c.min-most.result c.args.self.bytes.now)) = search rules in
    stepped c.args.self.bytes.now c.min-most.result c.fold.result c.min-most.ensures read
