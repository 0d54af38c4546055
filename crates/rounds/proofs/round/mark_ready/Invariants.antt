use Rattle.rounds.proofs.Turn.{Turn}
use Rattle.rounds.proofs.round.mark_ready.Given as goal

abbrev pub invariant-loop-place : goal.invariant-loop-place
invariant-loop-place g l = Turn (g.A.Arena.game l.arena) l.round l.place l.initial.table l.table l.marked l.looks
