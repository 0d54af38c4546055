-- What is printed of a sheet that is not solved.
use Rattle.std.specs.Prelude.{Some, None, Option}
use Rattle.std.specs.Option.{option_map}
use Rattle.lines.specs.declared.refusal.Told.{Told}
use Rattle.sheet.specs.Refusals.{told}
use Rattle.sheet.specs.declared.refusal.Refusal.{Refusal}
use Rattle.sheet.specs.declared.refusal.Refusal.TheVariants as refusal
use Rattle.report.specs.declared.failure.Failure.{Failure}
use Rattle.report.specs.declared.failure.Failure.TheVariants.{TooLarge, Refused, NoMemory}
use Rattle.report.specs.declared.failure.Printed.{Printed}

-- a refusal's number and byte offset
abbrev pub numbers : Told → Printed
numbers t = record { number = t.number; offset = t.offset }

-- the number and the byte offset of each failure that is a refusal of the sheet
abbrev pub printed : Failure → Option Printed
printed TooLarge = Some (record { number = 22; offset = 0 })
printed (Refused why) = option_map numbers (told why)
printed NoMemory = None

-- the failure of a sheet that is refused
abbrev pub failure_of : Refusal → Failure
failure_of refusal.NoMemory = NoMemory
failure_of why = Refused why
