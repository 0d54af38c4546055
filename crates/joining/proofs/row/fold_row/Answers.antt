use Rattle.std.proofs.Common.{◌∙◌, rules}
use Rattle.std.proofs.lemmas.Iterator.{YieldsList-from_slice}
use Rattle.std.proofs.lemmas.Iterator.Consumers.{YieldsList-from_enumerate, fold_from_yields_List}
use Rattle.joining.proofs.Folds.{taking, total_taken}
use Rattle.joining.proofs.row.fold_row.Goals as goal

pub returns : goal.returns
returns g c =
    let laws = g.met.J.Joining.lawful in
    fold_from_yields_List _ (taking laws c.args.first) _ _ c.fold.ensures.ran (YieldsList-from_enumerate (YieldsList-from_slice c.args.row.now cc) cc) (λ a x b q k. search rules) ∙ total_taken laws c.args.first c.args.row.now _ c.start.ensures
