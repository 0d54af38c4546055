use Rattle.endless.proofs.Trapping.{bytes_tell}
use Rattle.endless.proofs.bytes_tell.Goals as goal

pub returns : goal.returns
returns c = bytes_tell
