use Rattle.std.proofs.Common.{◌≡◌, ◌≤◌, vec_items, subst, rules}
use Rattle.board.specs.Boards.{spots_of, gates_of}
use Rattle.board.specs.Clock.{Period}
use Rattle.board.specs.Drafts.{draft_spots, draft_gates}
use Rattle.board.specs.Gates.{places}
use Rattle.sheet.specs.Says.{rows}
use Rattle.sheet.proofs.Clocks.{board_within}
use Rattle.sheet.proofs.reading.Reading.close.Goals as goal

pub returns : goal.returns
returns c =
    let board = c.in_ok-board.board in
    let draft = c.args.self.draft in
    let traps = vec_items c.args.self.traps in
    let made : (spots_of board ≡ draft_spots draft) × (gates_of board ≡ draft_gates draft) = search rules in (
      λ i. record { spots = made.0 i; gates = rows (made.1 i); traps = traps },
      c.if-stop-len.false,
      board_within _ _ traps board.period (subst (λ gs. Period gs board.period) made.1 board.clock) (subst (λ n. places n board.period ≤ 1048576) made.0 board.small),
    )
