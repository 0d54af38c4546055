use Rattle.std.proofs.Common.{refl}
use Rattle.std.proofs.lemmas.Result.{err_from_is_err_and}
use Rattle.lines.proofs.Refusing.{refused_line}
use Rattle.lines.proofs.Texts.{found_line}
use Rattle.lines.specs.Lines.{unlined}
use Rattle.lines.proofs.rest.Rest.front_line.Goals as goal

pub returns-in_err-line : goal.returns-in_err-line
returns-in_err-line c =
    let p = err_from_is_err_and c.from_residual.result c.from_residual.ensures.1 in
    let marked = c.in-Some.ensures in
    rw (p.1, p.2) (unlined c.in-Some.mark c.in-Some.after.now c.in_err-line.field-0.0.offset marked (refused_line c.in-Some.mark _ _ _ _ marked c.in_err-line.ensures) refl)

pub returns : goal.returns
returns c =
    found_line c.in-Some.mark c.args.self.at c.args.self.bytes.now _ c.in_ok-line.field-0 c.in-Some.ensures refl c.in_ok-line.ensures _ refl refl c.split_at.ensures.front refl
