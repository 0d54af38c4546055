use Rattle.std.proofs.Common.{drop, subst}
use Rattle.lines.specs.Lines.{Answers}
use Rattle.lines.proofs.Once.{sole}
use Rattle.lines.proofs.read.read_line.Goals as goal

pub returns : goal.returns
returns c =
    let sheet = c.args.sheet.now in
    let front = subst (λ l. Answers c.min-start.result l c.front_line.result) c.split_at.ensures.back c.front_line.ensures in
    sole sheet c.args.at c.front_line.result (subst (λ n. Answers n (drop n sheet) c.front_line.result) c.min-start.ensures front)
