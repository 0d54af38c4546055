use Rattle.std.proofs.Common.{rules}
use Rattle.lines.specs.Grammar.{Pattern}
use Rattle.lines.specs.Reading.{Run}
use Rattle.lines.proofs.Fields.{longest_run}
use Rattle.lines.proofs.field.PatternField.field_len.Goals as goal

pub returns : goal.returns
returns c =
    let body = c.args.body.now in
    let ran : Run Pattern 32 body c.count.result = search rules in
    longest_run Pattern body c.count.result ran tt
