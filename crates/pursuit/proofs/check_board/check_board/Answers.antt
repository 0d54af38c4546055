use Rattle.std.proofs.Common.{◌∙◌}
use Rattle.checker.specs.Verdicts.{Cause as TableCause}
use Rattle.pursuit.specs.Checked.{BoardTrue}
use Rattle.pursuit.specs.Solved.{trapped_game}
use Rattle.pursuit.proofs.Laid.{bytes_lawful, laid_game, board_judged, refused}
use Rattle.pursuit.proofs.check_board.check_board.Goals as goal

pub under_traps-requires : goal.under_traps-requires
under_traps-requires c = bytes_lawful c.args.arena.now.board c.args.traps.now _ (c.as_slice.ensures.value ∙ c.in_ok-bytes.ensures.1)

pub returns : goal.returns
returns c =
    let b = c.args.arena.now.board in
    let game = laid_game b c.args.traps.now _ _ c.under_traps.ensures (c.as_slice.ensures.value ∙ c.in_ok-bytes.ensures.1) in
    refused (λ _. BoardTrue b c.args.traps.now c.args.table.now) (TableCause (trapped_game b c.args.traps.now) c.args.table.now) b c.args.traps.now c.check.result c.map_err.result c.map_err.ensures.cases (board_judged b c.args.traps.now _ _ game c.check.result c.check.ensures)
