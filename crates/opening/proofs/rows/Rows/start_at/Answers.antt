use Rattle.std.proofs.Common.{ℕ, List, refl, subst, arith}
use Rattle.marks.specs.Picks.{Greatest, Picked}
use Rattle.marks.specs.Tallies.{Tallied}
use Rattle.marks.specs.Unique.{TheOne}
use Rattle.marks.proofs.Picks.{picked_index}
use Rattle.opening.specs.Rows.{row}
use Rattle.opening.proofs.Parts.{part_row, row_length}
use Rattle.opening.proofs.rows.Rows.start_at.Goals as goal

pub returns : goal.returns
returns c =
    let n : ℕ = c.args.self.now.spots in
    let marks : List ℕ = c.args.self.now.marks.now in
    let told = c.runner_pick_and_tally-both.ensures in
    let same = part_row n c.args.pursuer marks in
    let picked = rw c.in-Some.is at (subst (λ (l : List ℕ). Picked Greatest 0 l c.runner_pick_and_tally-both.result.first.entry) same told.picked.has) in
    record {
      pursuer = refl;
      replies = picked_index Greatest (row n marks c.args.pursuer) _ (omega (arith, row_length n c.args.pursuer marks c.requires c.args.self.now.long)) picked;
      tallied = subst (λ (l : List ℕ). TheOne (Tallied l) c.runner_pick_and_tally-both.result.second) same told.tallied;
    }
