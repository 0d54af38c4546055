use Rattle.std.proofs.Common.{◌≡◌, false, is_ok, vec_items, sym, ap, ◌∙◌, arith}
use Rattle.board.specs.Gates.{repeats}
use Rattle.board.proofs.Drafted.{lawful_after}
use Rattle.board.proofs.draft.Draft.add.Goals as goal

pub invariant_of-self : goal.invariant_of-self
invariant_of-self c =
    let d = c.args.self.now in
    let gs = vec_items d.gates in
    let g = c.args.gate in
    let fresh : repeats g gs ≡ false = ap (repeats g) (sym c.as_slice.ensures.value) ∙ sym c.is_repeated.ensures ∙ c.if-is_repeated.false in record {
      sized = d.sized;
      lawful = lawful_after d.spots gs g d.lawful ((omega arith, omega arith), (λ e. omega arith), fresh, omega (arith, c.len.ensures, d.gates.ok.0)) (is_ok c.push.result) (vec_items c.push.new.self) c.push.ensures.items;
    }
