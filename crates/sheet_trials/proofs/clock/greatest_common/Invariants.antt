use Rattle.sheet_trials.proofs.clock.greatest_common.Given as goal

abbrev pub decreases-loop-small : goal.decreases-loop-small
decreases-loop-small l = l.small
