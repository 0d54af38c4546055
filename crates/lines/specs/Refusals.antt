-- What each refusal of a line tells.
use Rattle.std.specs.Prelude.{ℕ, List, ◌++◌, codes, decimal}
use Rattle.lines.specs.declared.refusal.Layer.TheVariants.{Line}
use Rattle.lines.specs.declared.refusal.Refusal.{Refusal}
use Rattle.lines.specs.declared.refusal.Refusal.TheVariants.{NoMark, NoLine}
use Rattle.lines.specs.declared.refusal.Told.{Told}

-- how it is printed, as `refused 5 14`
abbrev pub printed : Told → List ℕ
printed t = codes "refused " ++ (decimal t.number ++ (codes " " ++ decimal t.offset))

-- its number, its offset and its layer
abbrev pub told : Refusal → Told
told (NoMark offset) = record { number = 4; offset = offset; layer = Line }
told (NoLine offset) = record { number = 5; offset = offset; layer = Line }
