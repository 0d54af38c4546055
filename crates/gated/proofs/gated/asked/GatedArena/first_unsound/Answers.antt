use Rattle.gated.proofs.Sounds.{sound}
use Rattle.gated.proofs.gated.asked.GatedArena.first_unsound.Goals as goal

pub returns : goal.returns
returns c = (sound c.args.self.now.board).1
