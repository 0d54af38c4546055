use Rattle.gated.proofs.Sounds.{sound}
use Rattle.gated.proofs.laws.boards_sound.Goals as goal

pub returns : goal.returns
returns c = sound
