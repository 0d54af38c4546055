use Rattle.std.proofs.Common.{◌+◌}
use Rattle.board.specs.Boards.{spots_of, gates_of}
use Rattle.endless.proofs.Publishing.{published}
use Rattle.endless.proofs.endless_published.Goals as goal

pub returns : goal.returns
returns c = λ b. published (spots_of b) (λ t. t + 1) (gates_of b) b.draft.sized.0 b.draft.lawful.1
