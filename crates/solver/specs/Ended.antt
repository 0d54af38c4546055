-- How a run ends: its table finished, or abandoned.
use Rattle.std.specs.Prelude.{◌≡◌, ℕ, Bool, true, false, List, length, Decides}
use Rattle.arena.specs.Game.{Game}
use Rattle.rounds.specs.Words.{Finished, fresh}
use Rattle.solver.specs.State.{live_of, state_of}
use Rattle.solver.specs.FinishRefused.{MayFinish}
use Rattle.solver.specs.Reached.{Reached}
use Rattle.solver.specs.Whole.{Whole}
use Rattle.solver.specs.declared.run.Run.{Run}

-- the run is ended, told g, with the words V: finished where it may be, else abandoned; a run that is not live has touched no word.
-- A finished table of a run that was told g throughout makes the whole claim.
pub record Ended (g : Game) (run : Run) (V : List ℕ) (accepted : Bool) : Type 0 where
  pub long : length V ≡ length run.table.now
  pub decided : Decides accepted (MayFinish g (state_of run))
  pub finished : accepted ≡ true → Finished g run.table.now V
  pub cleared : live_of run ≡ true → accepted ≡ false → V ≡ fresh (length run.table.now)
  pub untouched : live_of run ≡ false → V ≡ run.table.now
  pub whole : accepted ≡ true → Reached g (state_of run) → Whole g (state_of run).rounds (state_of run).looks V
