use Rattle.std.proofs.Common.{ℕ, ◌*◌, ◌%◌, ◌≤◌, ◌≡◌, subst, rules, tests, arith}
use Rattle.std.proofs.lemmas.Nat.{mul-le}
use Rattle.std.proofs.lemmas.Iterator.{first_from_Range}
use Rattle.board.specs.Clock.{LeastCommon}
use Rattle.board.proofs.Clocks.{found_common}
use Rattle.board.proofs.clock.least_common.Goals as goal

found : (c : goal.After-unwrap_or-k) → LeastCommon c.args.a c.from-b.result (c.args.a * c.unwrap_or-k.result) × (c.unwrap_or-k.result ≤ c.from-b.result)
found c =
    let f = first_from_Range _ _ _ c.find.result (λ k. c.args.a * k % c.from-b.result ≡ 0) (λ k. c.args.a * k % c.from-b.result ≡ 0 → ⊥) c.find.ensures.ran (λ x q k. search (rules, tests)) (λ x q k. search (rules, tests)) in
    rw c.unwrap_or-k.ensures (found_common c.args.a c.from-b.result _ c.requires.a_nonzero (omega (arith, c.from-b.ensures, c.requires.b_nonzero)) (omega arith) (omega arith) c.find.result f)

pub overflow_mul-result : goal.overflow_mul-result
overflow_mul-result c = omega (arith, (found c).1, mul-le c.args.a c.unwrap_or-k.result 144403552893600 32 c.requires.a_bound (omega (arith, c.requires.b_bound, c.from-b.ensures, (found c).1)))

pub returns : goal.returns
returns c = subst (λ (b : ℕ). LeastCommon c.args.a b (c.args.a * c.unwrap_or-k.result)) c.from-b.ensures (found c).0
