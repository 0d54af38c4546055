use Rattle.gated.proofs.Numbers.{on_board}
use Rattle.gated.proofs.gated.asked.GatedArena.move_count.Goals as goal

pub exits-requires : goal.exits-requires
exits-requires c = on_board _ _ _ c.in_ok-at.ensures
