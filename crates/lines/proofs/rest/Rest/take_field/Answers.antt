use Rattle.std.proofs.Common.{◌≡◌, ◌<◌, ◌∷◌, length, get_or, drop, sym, refl, ap, ◌∙◌, arith, rules}
use Rattle.std.proofs.lemmas.List.{take_rest, drop_more}
use Rattle.lines.proofs.Fields.{longest_ends}
use Rattle.lines.proofs.Refusing.{refused_space, refused_field}
use Rattle.lines.proofs.rest.Rest.take_field.Goals as goal

pub returns-in_default : goal.returns-in_default
returns-in_default g c ks =
    refused_space g.F.Field.kind ks c.args.self.at c.args.self.bytes.now (λ l e. search rules)

pub returns-then-n-lt-FEWEST : goal.returns-then-n-lt-FEWEST
returns-then-n-lt-FEWEST g c ks =
    let l = c.args.self.bytes.now in
    let some : 0 < length l = search rules in
    let is : get_or l 0 0 ≡ 32 = search rules in
    let begins : l ≡ 32 ∷ drop 1 l = drop_more l 0 0 some ∙ ap (λ b. b ∷ drop 1 l) is in
    let none : c.field_len-n.result ≡ 0 = omega (arith, c.if-n-lt-FEWEST.true) in
    refused_field g.F.Field.kind ks c.args.self.at l (drop 1 l) begins
    (rw (none, take_rest) at c.field_len-n.ensures)

pub returns : goal.returns
returns g c =
    let l = c.args.self.bytes.now in
    let some : 0 < length l = search rules in
    let is : get_or l 0 0 ≡ 32 = search rules in
    let begins : l ≡ 32 ∷ drop 1 l = drop_more l 0 0 some ∙ ap (λ b. b ∷ drop 1 l) is in
    let longest = c.field_len-n.ensures in
    let cut = c.split_at.ensures in
    record {
      parts = begins ∙ ap (λ x. 32 ∷ x) (sym (take_rest l 1) ∙ cut.by_index.0);
      good = rw cut.front (longest.good (omega (arith, c.if-n-lt-FEWEST.false)));
      ends = rw (cut.front, cut.back) (longest_ends _ _ _ longest);
      offset = refl;
      goes_on = omega (arith, cut.front_len);
    }
