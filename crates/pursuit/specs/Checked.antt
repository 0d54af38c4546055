-- When a table of a gated board with traps is accepted, and why not.
use Rattle.std.specs.Prelude.{ℕ, List, length}
use Rattle.arena.specs.Tables.{TrueTable}
use Rattle.arena.specs.Unfit.{Fits}
use Rattle.board.specs.declared.board.Board.{Board}
use Rattle.checker.specs.Verdicts.{Cause as TableCause}
use Rattle.checker.specs.declared.refusal.CheckRefusal.{CheckRefusal}
use Rattle.pursuit.specs.Solved.{trapped_game, trapped_endless, TrueEndless}
use Rattle.pursuit.specs.Refused.{CauseOf}
use Rattle.pursuit.specs.declared.refusal.BoardRefusal.{BoardRefusal}

-- the table V is accepted: it has the size of the board, and its marks and both plans are so, on the board's clock and on a clock without end
pub record BoardTrue (b : Board) (traps : List ℕ) (V : List ℕ) : Type 0 where
  pub fits : Fits (trapped_game b traps) (length V)
  pub so : TrueTable (trapped_game b traps) V
  pub endless : TrueEndless b (trapped_endless b traps) (trapped_game b traps) V

-- why it is not: the traps cannot be laid, or the table is refused by the board's game with its traps
abbrev pub Cause : Board → List ℕ → List ℕ → BoardRefusal CheckRefusal → Type 0
Cause b traps V = CauseOf b traps (TableCause (trapped_game b traps) V)
