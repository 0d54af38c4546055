use Rattle.std.proofs.Common.{None, ap, ◌∙◌, arith}
use Rattle.std.proofs.lemmas.Result.{err_from_is_err_and}
use Rattle.sheet.specs.Says.{rows}
use Rattle.sheet.proofs.Beginnings.{begun_none, begun_first, stopped, not_first, bad_size, size_cause}
use Rattle.sheet.proofs.read.begin.Goals as goal

pub returns-in_err-read : goal.returns-in_err-read
returns-in_err-read c =
    let p = err_from_is_err_and c.from_residual.result c.from_residual.ensures.1 in
    rw (p.1, p.2) (stopped _ 0 None _ (begun_none _) c.in_err-read.ensures)

pub returns-in_default : goal.returns-in_default
returns-in_default c = not_first _ _ c.in_ok-read.ensures c.in_default.not-Board

pub returns-in_default-try_from : goal.returns-in_default-try_from
returns-in_default-try_from c =
    bad_size _ _ c.in-Board.n c.in_ok-read.ensures c.in-Board.is (λ field lawful. c.in_default-try_from.ensures (omega (arith, c.number.ensures.field field, lawful.1)))

pub returns-in_default-new : goal.returns-in_default-new
returns-in_default-new c =
    bad_size _ _ c.in-Board.n c.in_ok-read.ensures c.in-Board.is (λ field lawful.
    size_cause c.in-Ok.spots c.in_default-new.field-0 c.in_default-new.ensures (omega (arith, c.in-Ok.ensures, c.number.ensures.field field, lawful.0), omega (arith, c.in-Ok.ensures, c.number.ensures.field field, lawful.1)))

pub returns : goal.returns
returns c =
    let made = c.in-Ok-new.ensures in
    begun_first _ _ c.in-Board.n _ c.in_ok-read.ensures c.in-Board.is (λ field. made.1 ∙ c.in-Ok.ensures.1 ∙ c.number.ensures.field field) (ap rows made.2) c.new-2.ensures.items c.in-Ok-new.draft.sized
