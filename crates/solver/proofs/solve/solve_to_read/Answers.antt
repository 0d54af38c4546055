use Rattle.std.proofs.Common.{length, refl, ap, arith}
use Rattle.arena.specs.Game.{Game}
use Rattle.solver.proofs.Ending.{live_words, words_are, settled_ends}
use Rattle.solver.proofs.Reaching.{reached_holds}
use Rattle.solver.proofs.solve.solve_to_read.Goals as goal

pub returns : goal.returns
returns g c =
    let G : Game = g.A.Arena.game c.args.arena.now in
    let fit = c.in_ok-can_begin.ensures in
    let run = c.settled_run-run.result in
    let ended = c.finish.ensures.ended in
    let reached = c.settled_run-run.ensures.reached in
    let (accepted, whole) = settled_ends G run _ _ ended reached c.settled_run-run.ensures.settled in
    let fits = (reached_holds G _ reached).fits in
    let words = ap length (words_are run (live_words G run fits)) in
    rw (accepted, c.finish.ensures.counted) (fit, refl, omega (arith, ended.long, fit.two_each, fits.two_each), whole)
