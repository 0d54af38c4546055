use Rattle.std.proofs.Common.{length, ◌∙◌}
use Rattle.arena.specs.Unfit.{Cause}
use Rattle.pursuit.specs.Solved.{trapped_game}
use Rattle.pursuit.proofs.Laid.{bytes_lawful, laid_game, SolvesBoard, board_solved, refused}
use Rattle.pursuit.proofs.solve_board.solve_board.Goals as goal

pub under_traps-trapped-requires : goal.under_traps-trapped-requires
under_traps-trapped-requires c = bytes_lawful c.args.arena.now.board c.args.traps.now _ (c.as_slice.ensures.value ∙ c.in_ok-bytes.ensures.1)

pub returns-clause-solved : goal.returns-clause-solved
returns-clause-solved c =
    let b = c.args.arena.now.board in
    let game = laid_game b c.args.traps.now _ _ c.under_traps-trapped.ensures (c.as_slice.ensures.value ∙ c.in_ok-bytes.ensures.1) in
    refused (SolvesBoard b c.args.traps.now (length c.args.table.now)) (Cause (trapped_game b c.args.traps.now) (length c.args.table.now)) b c.args.traps.now c.solve_to_read.result c.map_err.result c.map_err.ensures.cases (board_solved b c.args.traps.now _ _ game c.solve_to_read.result c.solve_to_read.ensures)
