use Rattle.std.proofs.Common.{[], ◌∷◌, refl}
use Rattle.std.proofs.lemmas.Result.{err_from_is_err_and}
use Rattle.lines.specs.Grammar.{Number, Pattern}
use Rattle.lines.specs.declared.line.Mark.TheVariants.{Gate}
use Rattle.lines.proofs.Refusing.{refused_took}
use Rattle.lines.proofs.Texts.{ahead, completed}
use Rattle.lines.proofs.rest.Rest.read_gate.Goals as goal

pub returns-in_err-v : goal.returns-in_err-v
returns-in_err-v c =
    let p = err_from_is_err_and c.from_residual-in_err-v.result c.from_residual-in_err-v.ensures.1 in
    rw (p.1, p.2) (refused_took Number (Number ∷ Pattern ∷ []) c.args.self c.in_ok-u.u c.in_err-v.field-0.0 c.in_ok-u.ensures (c.in_err-v.ensures (Pattern ∷ [])))

pub returns-in_err-pattern : goal.returns-in_err-pattern
returns-in_err-pattern c =
    let p = err_from_is_err_and c.from_residual-in_err-pattern.result c.from_residual-in_err-pattern.ensures.1 in
    let u = c.in_ok-u.u in
    let why = c.in_err-pattern.field-0.0 in
    rw (p.1, p.2)
    (refused_took Number (Number ∷ Pattern ∷ []) c.args.self u why c.in_ok-u.ensures
    (refused_took Number (Pattern ∷ []) u.rest c.in_ok-v.v why c.in_ok-v.ensures (c.in_err-pattern.ensures [])))

pub returns : goal.returns
returns c =
    let u = c.in_ok-u.u in
    let v = c.in_ok-v.v in
    completed Gate c.args.self _ c.end_line.result refl
    (ahead Number (Number ∷ Pattern ∷ []) c.args.self u _ _ _ c.in_ok-u.ensures
    (ahead Number (Pattern ∷ []) u.rest v _ _ _ c.in_ok-v.ensures
    (ahead Pattern [] v.rest c.in_ok-pattern.pattern _ _ _ c.in_ok-pattern.ensures c.end_line.ensures)))
