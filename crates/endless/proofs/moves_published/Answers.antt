use Rattle.board.specs.Boards.{spots_of, period_of, gates_of}
use Rattle.gated.specs.Places.{next}
use Rattle.endless.proofs.Publishing.{published}
use Rattle.endless.proofs.moves_published.Goals as goal

pub returns : goal.returns
returns c = λ b. published (spots_of b) (next (period_of b)) (gates_of b) b.draft.sized.0 b.draft.lawful.1
