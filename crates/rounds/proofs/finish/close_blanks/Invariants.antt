use Rattle.rounds.specs.Words.{FinishWords}
use Rattle.rounds.proofs.Sweep.{Sweep}
use Rattle.rounds.proofs.finish.close_blanks.Given as goal

abbrev pub invariant-loop-place : goal.invariant-loop-place
invariant-loop-place g l = Sweep (g.A.Arena.game l.arena) (FinishWords (g.A.Arena.game l.arena) l.initial.table) l.place l.initial.table l.table
