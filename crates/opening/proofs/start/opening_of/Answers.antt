use Rattle.std.proofs.Common.{◌≡◌, ℕ, ◌+◌, ◌≤◌, List, sym, ◌∙◌, subst, arith}
use Rattle.solver.specs.Shown.{shown}
use Rattle.opening.specs.declared.start.Opening.{Opening}
use Rattle.opening.specs.Openings.{OpensAmong}
use Rattle.opening.specs.Refused.{SameSize}
use Rattle.opening.proofs.Least.{next_start, same_start}
use Rattle.opening.proofs.start.opening_of.Goals as goal
use Rattle.opening.proofs.start.opening_of.Goals.{then-next-best, else-next-best}

pub loop-pursuer-preserved : goal.loop-pursuer-preserved
loop-pursuer-preserved c =
    let rows = c.in_ok-rows.rows in
    let told = c.start_at-next.ensures in
    elim c.if-next-best.branch [
      | then-next-best w ↦ subst (λ (o : Opening). OpensAmong (c.loop-pursuer.pursuer + 1) rows.spots rows.marks.now o) (sym w.best-is) (next_start _ _ _ _ _ c.loop-pursuer.invariant told w.if-next-best.true)
      | else-next-best w ↦ subst (λ (o : Opening). OpensAmong (c.loop-pursuer.pursuer + 1) rows.spots rows.marks.now o) (sym w.best-is) (same_start _ _ _ _ _ c.loop-pursuer.invariant told w.if-next-best.false)
    ]

pub returns : goal.returns
returns c =
    let rows = c.in_ok-rows.rows in
    let told = c.in_ok-rows.ensures in
    let best = c.loop-pursuer.best in
    let words : List ℕ = shown c.args.finished.now in
    let some : 1 ≤ c.spots-pursuer-end.result = omega (arith, c.spots-pursuer-end.ensures, rows.some) in
    let end : c.loop-pursuer.pursuer ≡ rows.spots = omega (arith, c.loop-pursuer.auto.pursuer-end some, c.loop-pursuer-test.false, c.spots-pursuer-end.ensures) in
    let opens = subst (λ (k : ℕ). OpensAmong k rows.spots rows.marks.now best) end c.loop-pursuer.invariant in
    let marks = subst (λ (W : List ℕ). OpensAmong rows.spots rows.spots W best) (told.1 ∙ c.words.ensures) opens in
    (subst (SameSize c.args.board.now) c.words.ensures told.0, subst (λ (n : ℕ). OpensAmong n n words best) told.2 marks)
