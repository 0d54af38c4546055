use Rattle.report.proofs.Telling.{told_of_sheet, told_of_refused}
use Rattle.report.proofs.Wanting.{below_all}
use Rattle.report.proofs.solve_sheet.solve_sheet.Goals as goal

pub solve_written-requires : goal.solve_written-requires
solve_written-requires c = below_all _ _ c.in_ok-written.ensures.traps.spots

pub returns-clause-told : goal.returns-clause-told
returns-clause-told c = told_of_sheet _ c.in_ok-written.written c.solve_written.result c.if-sheet-gt-MOST_BYTES.false c.in_ok-written.ensures c.solve_written.ensures

pub returns-in_err-written-clause-told : goal.returns-in_err-written-clause-told
returns-in_err-written-clause-told c = told_of_refused _ _ c.from_residual.result c.if-sheet-gt-MOST_BYTES.false c.in_err-written.ensures c.from_residual.ensures.1
