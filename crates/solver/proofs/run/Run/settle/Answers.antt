use Rattle.std.proofs.Common.{arith}
use Rattle.arena.specs.Game.{Game}
use Rattle.solver.proofs.Reaching.{reached_holds}
use Rattle.solver.proofs.Rounding.{round_counts}
use Rattle.solver.proofs.run.Run.settle.Goals as goal

pub returns-clause-settled : goal.returns-clause-settled
returns-clause-settled g c =
    let G : Game = g.A.Arena.game c.args.arena.now in
    (round_counts G _ _ c.round.result _ (reached_holds G _ c.rounds.invariant.reached).fits c.round.ensures.told).0 (omega arith)
