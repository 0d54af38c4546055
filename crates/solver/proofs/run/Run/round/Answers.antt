use Rattle.std.proofs.Common.{◌≡◌, refl, ap, sym, ◌∙◌, rules, arith}
use Rattle.solver.specs.State.{is_live}
use Rattle.solver.specs.declared.phase.Phase.TheVariants.{Open}
use Rattle.solver.proofs.Reaching.{reached_kept}
use Rattle.solver.proofs.Rounding.{round_made, round_reached}
use Rattle.solver.proofs.run.Run.round.Goals as goal

pub returns-in_err-admitted-clause-reached : goal.returns-in_err-admitted-clause-reached
returns-in_err-admitted-clause-reached g c = reached_kept _ _

pub returns-then-ne-clause-reached : goal.returns-then-ne-clause-reached
returns-then-ne-clause-reached g c = reached_kept _ _

pub returns-in_err-made-clause-reached : goal.returns-in_err-made-clause-reached
returns-in_err-made-clause-reached g c = let same = c.in_err-made.ensures.1 in rw same (reached_kept _ _)

pub returns : goal.returns
returns g c =
    let opened : c.args.self.now.phase ≡ Open = search rules in
    let after = c.after_round-self.ensures in
    let made = c.in_ok-made.ensures in
    let told = round_made _ _ _ _ _ _ _ _ _ _ opened after.live after.settled made.0 made.1 c.round_table.auto.table (omega arith) c.saturating_add-self.ensures in
    record { bound = refl; live = after.live ∙ sym (ap is_live opened); told = told; reached = round_reached _ _ _ _ told }
