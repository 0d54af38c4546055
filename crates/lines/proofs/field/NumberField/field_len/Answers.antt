use Rattle.std.proofs.Common.{◌≡◌, ◌<◌, length, get_or, rules}
use Rattle.lines.specs.Grammar.{Number}
use Rattle.lines.specs.Reading.{Run}
use Rattle.lines.proofs.Fields.{longest_run, plain_from}
use Rattle.lines.proofs.field.NumberField.field_len.Goals as goal

pub returns-in_default : goal.returns-in_default
returns-in_default c =
    let body = c.args.body.now in
    let other : 0 < length body → get_or body 0 0 ≡ 48 → ⊥ = λ l e. search rules in
    let ran : Run Number 3 body c.count.result = search rules in
    longest_run Number body c.count.result ran (plain_from body c.count.result ran.within other)
