-- A run that is told one arena throughout, and what its table then holds.
use Rattle.std.specs.Prelude.{◌≡◌, ℕ, ◌<◌, ◌≤◌, true, false, ◌⊎◌, List, [], ◌∷◌, length}
use Rattle.arena.specs.Game.{Game, caught}
use Rattle.arena.specs.Levels.{Level, First}
use Rattle.arena.specs.Unfit.{Fits}
use Rattle.marks.specs.Marks.{blank, none}
use Rattle.rounds.specs.Words.{Begun, Best, marks_of, moves_of}
use Rattle.solver.specs.State.{State, start, AcceptsRound}
use Rattle.solver.specs.FinishRefused.{CauseOpen}
use Rattle.solver.specs.declared.finish_refusal.FinishRefusal.{FinishRefusal}

-- a call that a run is told: a round that marks so many places, or a finish that is declined
pub data Call : Type 0 where
  round : ℕ → Call
  finish : FinishRefusal → Call

-- the call, told g, turns s to t; a declined finish keeps the run as it was
abbrev pub Answers : Game → Call → State → State → Type 0
Answers g (round m) s t = AcceptsRound g s t m
Answers g (finish e) s t = CauseOpen g s e × (t ≡ s)

-- s is reached by a begin on g and then these calls, the newest first, all told g
abbrev pub AfterCalls : Game → List Call → State → Type 0
AfterCalls g [] s = (W : List ℕ) × Fits g (length W) × Begun g W × (s ≡ start W)
AfterCalls g (call ∷ calls) t = (s : State) × AfterCalls g calls s × Answers g call s t

-- some list of calls leads there
abbrev pub Reached : Game → State → Type 0
Reached g s = (calls : List Call) × AfterCalls g calls s

-- the place p is marked within j rounds: its mark is the first level that holds it, its move word the best by the marks
pub record MarkedAt (g : Game) (j : ℕ) (W : List ℕ) (p : ℕ) : Type 0 where
  pub within : marks_of W p ≤ j
  pub first : First g.rules p (marks_of W p)
  pub idle : caught g.rules p ≡ true → moves_of g W p ≡ none
  pub best : caught g.rules p ≡ false → Best g.rules (marks_of W) p (moves_of g W p)

-- the place p is not marked within j rounds: no level up to j holds it, its mark is blank and its move word none
pub record OpenAt (g : Game) (j : ℕ) (W : List ℕ) (p : ℕ) : Type 0 where
  pub unmarked : marks_of W p ≡ blank
  pub outside : Level g.rules j p → ⊥
  pub idle : moves_of g W p ≡ none

-- after round j the table holds exactly the marks up to j with their move words, blank and none elsewhere
abbrev pub AfterRound : Game → ℕ → List ℕ → Type 0
AfterRound g j W = (p : ℕ) → p < g.size → MarkedAt g j W p ⊎ OpenAt g j W p
