use Rattle.std.proofs.Common.{◌≡◌, ℕ, ◌<◌, cond}
use Rattle.marks.specs.Marks.{blank}
use Rattle.rounds.specs.Words.{marks_of}
use Rattle.rounds.proofs.begin.mark_captures.Given as goal

-- the places so far are marked
abbrev pub invariant-loop-place : goal.invariant-loop-place
invariant-loop-place g l = (p : ℕ) → p < l.place → marks_of l.marks p ≡ cond ((g.A.Arena.game l.arena).rules.capture p) 0 blank
