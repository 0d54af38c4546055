use Rattle.std.proofs.Common.{◌≡◌, rules}
use Rattle.std.specs.List.{fold}
use Rattle.lines.proofs.Numerals.{held, numbered}
use Rattle.lines.proofs.part.Part.number.Goals as goal

pub returns : goal.returns
returns c =
    let read : c.fold.result ≡ fold held 0 c.args.self.bytes.now = search rules in
    numbered c.args.self.bytes.now c.fold.result read
