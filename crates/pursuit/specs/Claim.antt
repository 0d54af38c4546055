-- The whole claim: the marks and both plans of every finished table are so, of whole plays, and the checker accepts exactly the tables of which this holds.
use Rattle.std.specs.Prelude.{◌≡◌, ℕ, true, ◌↔◌, List, length, is_ok, Result}
use Rattle.arena.specs.Game.{Game}
use Rattle.arena.specs.Tables.{TrueTable}
use Rattle.arena.specs.Unfit.{Fits}
use Rattle.board.specs.declared.board.Board.{Board}
use Rattle.checker.specs.Verdicts.{Verdict}
use Rattle.checker.specs.declared.refusal.CheckRefusal.{CheckRefusal}
use Rattle.endless.specs.Piled.{piled_board, endless_piled}
use Rattle.rounds.specs.Words.{Finished}
use Rattle.solver.specs.FinishRefused.{MayFinish}
use Rattle.solver.specs.Reached.{Reached}
use Rattle.solver.specs.State.{State}
use Rattle.pursuit.specs.Solved.{TrueEndless}

-- V is a finished table of g: left by a begin, any list of rounds and declined finishes, and at last an accepted finish, all told g
pub record FinishedTable (g : Game) (V : List ℕ) : Type 0 where
  pub run : State
  pub reached : Reached g run
  pub may_finish : MayFinish g run
  pub left : Finished g run.words V

-- the marks and both plans of a table V of a board under a pile of traps are so, on the board's clock and on a clock without end
abbrev pub TrueOnBoard : Board → List (List ℕ) → List ℕ → Type 0
TrueOnBoard b pile V = TrueTable (piled_board b pile) V × TrueEndless b (endless_piled b pile) (piled_board b pile) V

-- Of every sound game, plain, gated, trapped or another, and of every gated board under any pile of traps, on a clock without end too.
pub record WholeClaim : Type 0 where
  -- every finished table is so
  pub finished : (g : Game) (V : List ℕ) → FinishedTable g V → TrueTable g V
  pub finished_board : (b : Board) (pile : List (List ℕ)) (V : List ℕ) → FinishedTable (piled_board b pile) V → TrueOnBoard b pile V
  -- a table of the right size is accepted by the checker exactly when it is so
  pub checked : (g : Game) (V : List ℕ) (answer : Result (Unit {0}) CheckRefusal) → Fits g (length V) → Verdict g V answer
      → (is_ok answer ≡ true) ↔ TrueTable g V
  pub checked_board : (b : Board) (pile : List (List ℕ)) (V : List ℕ) (answer : Result (Unit {0}) CheckRefusal) → Fits (piled_board b pile) (length V)
      → Verdict (piled_board b pile) V answer → (is_ok answer ≡ true) ↔ TrueOnBoard b pile V
