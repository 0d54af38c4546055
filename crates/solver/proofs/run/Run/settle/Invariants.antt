use Rattle.std.proofs.Common.{◌≡◌}
use Rattle.rounds.specs.Words.{blanks}
use Rattle.solver.specs.Reached.{Reached}
use Rattle.solver.specs.State.{state_of}
use Rattle.solver.proofs.run.Run.settle.Given as goal

-- the run is bound to the same table, and told one arena
abbrev pub invariant-rounds : goal.invariant-rounds
invariant-rounds g l =
    record { bound : l.self.table.ghost_name ≡ l.initial.self.table.ghost_name; reached : Reached (g.A.Arena.game l.arena) (state_of l.self) }

-- each round but the last leaves fewer blank marks
abbrev pub decreases-rounds : goal.decreases-rounds
decreases-rounds g l = blanks (g.A.Arena.game l.arena).size (state_of l.self).words
