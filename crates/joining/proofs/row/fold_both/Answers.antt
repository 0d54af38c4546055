use Rattle.std.proofs.Common.{ap, ◌∙◌}
use Rattle.joining.proofs.Folds.{folded_parts}
use Rattle.joining.proofs.row.fold_both.Goals as goal

pub returns : goal.returns
returns g c =
    let both = c.fold_row.ensures ∙ folded_parts g.A.Joining.meaning g.B.Joining.meaning c.args.first c.args.row.now in
    record { left = ap (λ p. p.first) both; right = ap (λ p. p.second) both }
