use Rattle.std.proofs.Common.{◌≡◌, min, length, drop, subst, arith, length-drop}
use Rattle.std.proofs.lemmas.Result.{err_from_is_err_and}
use Rattle.lines.specs.Lines.{Declined}
use Rattle.lines.specs.Refusals.{told}
use Rattle.sheet.specs.Rules.{unread}
use Rattle.sheet.proofs.read.line_at.Goals as goal

pub returns-in_err-read_line : goal.returns-in_err-read_line
returns-in_err-read_line c =
    let p = err_from_is_err_and c.from_residual.result c.from_residual.ensures.1 in
    let sheet = c.args.sheet.now in
    let here : min c.args.at (length sheet) ≡ c.args.at = omega (arith, c.requires) in
    rw (p.1, p.2) (λ s. unread (omega (arith, c.requires, c.if-at-sheet.false, length-drop c.args.at sheet))
    (subst (λ n. Declined n (drop n sheet) (told c.in_err-read_line.field-0.0)) here c.in_err-read_line.ensures.right))
