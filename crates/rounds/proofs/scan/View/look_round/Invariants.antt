use Rattle.std.proofs.Common.{◌≡◌, take}
use Rattle.joining.specs.Rows.{folded}
use Rattle.marks.specs.Picks.{picking}
use Rattle.rounds.specs.Scans.{seen_row}
use Rattle.rounds.proofs.scan.View.look_round.Given as goal

-- what was seen before the position is joined, one look for each
abbrev pub invariant-loop-position : goal.invariant-loop-position
invariant-loop-position g l =
    (l.looks ≡ l.position)
    × (l.pick ≡ folded (picking g.W.Wish.order) 0 (take l.position (seen_row (g.A.Arena.game l.self.arena.now).rules l.self.cap l.self.table.now l.self.place)))
