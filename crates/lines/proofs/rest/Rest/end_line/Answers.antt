use Rattle.std.proofs.Common.{rules}
use Rattle.lines.proofs.Refusing.{refused_end}
use Rattle.lines.proofs.rest.Rest.end_line.Goals as goal

pub returns-in_default : goal.returns-in_default
returns-in_default c = refused_end c.args.self.at c.args.self.bytes.now (λ l e. search rules)
