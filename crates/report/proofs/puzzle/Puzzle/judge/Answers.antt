use Rattle.std.proofs.Common.{MatchResult, subst}
use Rattle.checker.specs.Verdicts.{Cause as TableCause}
use Rattle.pursuit.specs.Checked.{BoardTrue, Cause}
use Rattle.pursuit.specs.Solved.{trapped_game}
use Rattle.report.proofs.Wanting.{only_memory, unjudged}
use Rattle.report.proofs.puzzle.Puzzle.judge.Goals as goal

pub map_err-requires : goal.map_err-requires
map_err-requires c e is =
    let b = c.args.self.now.arena.board in
    let traps = c.args.self.now.traps.items in
    let V = c.args.words.now in
    only_memory b traps (TableCause (trapped_game b traps) V) c.args.self.now.below (unjudged b traps V c.requires) e
    (subst (λ r. MatchResult r (λ _. BoardTrue b traps V) (Cause b traps V)) is (rw c.as_slice.ensures.value at c.check_board.ensures))
