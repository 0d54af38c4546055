use Rattle.opening.specs.Openings.{OpensAmong}
use Rattle.opening.proofs.start.opening_of.Given as goal

-- the best start so far
abbrev pub invariant-loop-pursuer : goal.invariant-loop-pursuer
invariant-loop-pursuer l = OpensAmong l.pursuer l.rows.spots l.rows.marks.now l.best
