use Rattle.std.proofs.Common.{◌^◌, ◌≤◌, arith}
use Rattle.std.proofs.lemmas.Nat.{pow_pos}
use Rattle.board.proofs.SetBits.{within_below, bit_from, some_bit, shifted_out, shifted_on}
use Rattle.board.proofs.pattern.Pattern.new.Goals as goal

pub returns-then-bits-steps-ne0 : goal.returns-then-bits-steps-ne0
returns-then-bits-steps-ne0 c =
    let h : 2 ^ c.args.steps ≤ c.args.bits = shifted_on c.args.bits c.args.steps c.if-bits-steps-ne0.true in
    ((omega arith, omega arith), bit_from c.args.bits c.args.steps (omega (arith, pow_pos c.args.steps)) (omega arith) h)

pub invariant_of-result : goal.invariant_of-result
invariant_of-result c = record {
  lawful = (
    (omega arith, omega arith),
    within_below c.args.bits c.args.steps (shifted_out c.args.bits c.args.steps c.if-bits-steps-ne0.false),
    some_bit c.args.bits (omega arith) (omega arith),
  );
}
