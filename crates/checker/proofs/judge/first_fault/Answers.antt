use Rattle.std.proofs.Common.{◌≡◌, ℕ, ◌<◌, ◌≤◌, List, Option, None, Some, MatchOption, rules, arith}
use Rattle.std.proofs.lemmas.Iterator.{first_from_Range}
use Rattle.arena.specs.Game.{Game}
use Rattle.checker.specs.Obeys.{ObeysAt}
use Rattle.checker.specs.Verdicts.{FirstFault}
use Rattle.checker.proofs.judge.first_fault.Goals as goal

-- what `find` says of the places below the size
found : (g : Game) (V : List ℕ) (n : ℕ) (r : Option ℕ) → n ≡ g.size → MatchOption r ((k : ℕ) → 0 ≤ k → k < n → k < g.size → ObeysAt g V k) (λ i. (0 ≤ i) × (i < n) × (i < g.size → ObeysAt g V i → ⊥) × ((k : ℕ) → 0 ≤ k → k < i → k < g.size → ObeysAt g V k)) → MatchOption r ((p : ℕ) → p < g.size → ObeysAt g V p) (FirstFault g V)
found g V n None e h = λ k lt. h k (omega arith) (omega arith) lt
found g V n (Some i) e h =
    let lt : i < g.size = omega (arith, h.1) in
    (lt, h.2 lt, λ k l. h.3 k (omega arith) l (omega arith))

pub returns : goal.returns
returns g c =
    let game = g.A.Arena.game c.args.arena.now in
    let table = c.args.table.now in
    found game table c.size.result c.find.result c.size.ensures (first_from_Range _ _ _ _ (λ k. k < game.size → ObeysAt game table k → ⊥) (λ k. k < game.size → ObeysAt game table k) c.find.ensures.ran (λ x q k lt. search rules) (λ x q k. search rules))
