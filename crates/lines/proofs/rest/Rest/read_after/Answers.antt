use Rattle.std.proofs.Common.{[], refl}
use Rattle.lines.specs.Grammar.{Number}
use Rattle.lines.specs.declared.line.Mark.TheVariants.{Board, Trap}
use Rattle.lines.proofs.Texts.{ahead, completed}
use Rattle.lines.proofs.rest.Rest.read_after.Goals as goal

pub returns-in_ok-n-in-Board : goal.returns-in_ok-n-in-Board
returns-in_ok-n-in-Board c =
    rw c.in-Board.is (completed Board c.args.self _ c.end_line.result refl (ahead Number [] c.args.self c.in_ok-n-in-Board.n _ _ _ c.in_ok-n-in-Board.ensures c.end_line.ensures))

pub returns-in_ok-v-in-Trap : goal.returns-in_ok-v-in-Trap
returns-in_ok-v-in-Trap c =
    rw c.in-Trap.is (completed Trap c.args.self _ c.end_line-in-Trap.result refl (ahead Number [] c.args.self c.in_ok-v-in-Trap.v _ _ _ c.in_ok-v-in-Trap.ensures c.end_line-in-Trap.ensures))
