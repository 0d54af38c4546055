-- What each refusal of a sheet tells.
use Rattle.std.specs.Prelude.{ℕ, Some, None, Option}
use Rattle.lines.specs.declared.refusal.Layer.TheVariants as layer
use Rattle.lines.specs.declared.refusal.Told.{Told}
use Rattle.lines.specs.Refusals.{told as line_told}
use Rattle.sheet.specs.declared.refusal.Refusal.{Refusal}
use Rattle.sheet.specs.declared.refusal.Refusal.TheVariants.{Line, Misplaced, OutOfRange, NeverOpen, Repeated, TooManyGates, TooLarge, NoMemory}

-- a rule of boards, broken at the offset
abbrev pub board_rule : ℕ → ℕ → Told
board_rule n offset = record { number = n; offset = offset; layer = layer.Board }

-- its number, its offset and its layer; want of memory has none
abbrev pub told : Refusal → Option Told
told (Line why) = Some (line_told why)
told (Misplaced offset) = Some (board_rule 6 offset)
told (OutOfRange offset) = Some (board_rule 7 offset)
told (NeverOpen offset) = Some (record { number = 3; offset = offset; layer = layer.Pattern })
told (Repeated offset) = Some (board_rule 8 offset)
told (TooManyGates offset) = Some (board_rule 9 offset)
told (TooLarge offset) = Some (board_rule 10 offset)
told NoMemory = None
