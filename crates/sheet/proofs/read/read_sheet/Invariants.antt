use Rattle.std.proofs.Common.{◌-◌, length, Some}
use Rattle.sheet.specs.Parts.{said, Begun}
use Rattle.sheet.proofs.read.read_sheet.Given as goal

abbrev pub invariant-loop-reading : goal.invariant-loop-reading
invariant-loop-reading l = Begun l.sheet l.at (Some (said l.reading))

abbrev pub decreases-loop-reading : goal.decreases-loop-reading
decreases-loop-reading l = length l.sheet - l.at
