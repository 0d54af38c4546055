use Rattle.board.specs.Boards.{gates_of}
use Rattle.gated.specs.Parted.{spot_of}
use Rattle.gated.proofs.Exits.{read_below}
use Rattle.gated.proofs.Numbers.{mover_in, on_board}
use Rattle.gated.proofs.gated.asked.GatedArena.move_at.Goals as goal

pub exits-requires : goal.exits-requires
exits-requires c = on_board _ _ _ c.in_ok-at.ensures

pub moved-requires-clause-on_board : goal.moved-requires-clause-on_board
moved-requires-clause-on_board c = on_board _ _ _ c.in_ok-at.ensures

pub moved-requires-clause-to_bound : goal.moved-requires-clause-to_bound
moved-requires-clause-to_bound c =
    let b = c.args.self.now.board in
    let q = c.in_ok-at.at in
    let on = on_board b _ q c.in_ok-at.ensures in
    let found = c.in_ok-to.ensures.lookup.3 in
    let here = mover_in b.draft.spots q.turn q.pursuer q.runner on.pursuer on.runner in
    read_below b.draft.spots q.step (spot_of q) (gates_of b) b.draft.lawful.1 here _ _ _ c.exits.ensures found.0 (found.1 0)
