use Rattle.std.proofs.Common.{Some, ap}
use Rattle.std.proofs.lemmas.Result.{err_from_is_err_and}
use Rattle.lines.specs.Lines.{entry_of}
use Rattle.sheet.specs.Parts.{said}
use Rattle.sheet.proofs.Beginnings.{begun_more, stopped, turned_down, closed, goes_on}
use Rattle.sheet.proofs.Once.{exactly}
use Rattle.sheet.proofs.read.read_sheet.Goals as goal

pub returns-in_err-reading : goal.returns-in_err-reading
returns-in_err-reading c =
    let p = err_from_is_err_and c.from_residual.result c.from_residual.ensures.1 in
    rw (p.1, p.2) (exactly _ _ c.in_err-reading.ensures)

pub returns-in_err-read : goal.returns-in_err-read
returns-in_err-read c =
    let p = err_from_is_err_and c.from_residual-in_err-read.result c.from_residual-in_err-read.ensures.1 in
    rw (p.1, p.2) (exactly _ _ (stopped _ _ _ _ c.loop-reading.invariant c.in_err-read.ensures))

pub returns-in-End : goal.returns-in-End
returns-in-End c =
    exactly c.args.sheet.now c.close.result
    (closed c.args.sheet.now c.loop-reading.at (said c.loop-reading.reading) c.in_ok-read.read c.close.result c.loop-reading.invariant c.in_ok-read.ensures (ap entry_of c.in-End.is) c.close.ensures)

pub returns-in_err-take : goal.returns-in_err-take
returns-in_err-take c =
    let p = err_from_is_err_and c.from_residual-in_err-take.result c.from_residual-in_err-take.ensures.1 in
    let on = goes_on _ c.in_default.not-End in
    let why = rw c.in_ok-read.ensures.offset at c.in_err-take.ensures on in
    rw (p.1, p.2) (exactly _ _ (turned_down _ _ _ _ _ c.loop-reading.invariant c.in_ok-read.ensures on why))

pub loop-reading-preserved : goal.loop-reading-preserved
loop-reading-preserved c =
    let on = goes_on _ c.in_default.not-End in
    let took = c.in_ok-take.ensures on in
    begun_more c.args.sheet.now c.loop-reading.at (Some (said c.loop-reading.reading)) (Some (said c.take.new.self)) c.in_ok-read.read c.loop-reading.invariant c.in_ok-read.ensures on took.0 took.1
