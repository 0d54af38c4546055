use Rattle.std.proofs.Common.{◌*◌, ◌≤◌, arith}
use Rattle.std.proofs.lemmas.Nat.{mul-le}
use Rattle.board.proofs.Clocks.{period_small}
use Rattle.board.proofs.board.Board.with.Goals as goal

pub overflow_mul-period : goal.overflow_mul-period
overflow_mul-period c = omega (arith, period_small _ _ c.period_of-period.ensures)

pub overflow_mul-period-2 : goal.overflow_mul-period-2
overflow_mul-period-2 c =
    let p = period_small _ _ c.period_of-period.ensures in
    let n = c.from-n.result in
    let few : n ≤ 64 = omega (arith, c.from-n.ensures, c.spots.ensures, c.args.draft.sized.1) in
    omega (arith, mul-le (c.period_of-period.result * 2) n (144403552893600 * 2) 64 (omega arith) few)

pub overflow_mul-period-3 : goal.overflow_mul-period-3
overflow_mul-period-3 c =
    let p = period_small _ _ c.period_of-period.ensures in
    let n = c.from-n.result in
    let t = c.period_of-period.result * 2 in
    let few : n ≤ 64 = omega (arith, c.from-n.ensures, c.spots.ensures, c.args.draft.sized.1) in
    let q : t * n ≤ 144403552893600 * 2 * 64 = mul-le t n (144403552893600 * 2) 64 (omega arith) few in
    omega (arith, mul-le (t * n) n (144403552893600 * 2 * 64) 64 q few)
