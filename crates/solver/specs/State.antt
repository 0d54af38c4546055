-- What a run holds, and what a begin and a round make of it.
use Rattle.std.specs.Prelude.{◌≡◌, ℕ, ◌+◌, min, Bool, true, false, cond, ◌⊎◌, List, [], length, ◌==◌}
use Rattle.arena.specs.Game.{Game}
use Rattle.arena.specs.Unfit.{Fits}
use Rattle.rounds.specs.Words.{Begun, Rounded, blanks, looks_of, last_round}
use Rattle.solver.specs.declared.phase.Phase.{Phase}
use Rattle.solver.specs.declared.phase.Phase.TheVariants.{Refused, Open, Settled}
use Rattle.solver.specs.declared.run.Run.{Run}

-- the words that a run works on, the rounds and the looks that it has made, and whether it is settled
pub record State : Type 0 where
  pub words : List ℕ
  pub rounds : ℕ
  pub looks : ℕ
  pub settled : Bool

-- a run whose begin was refused is not live, and works on no words
abbrev pub state : Bool → List ℕ → ℕ → ℕ → Bool → State
state live W r l s = record { words = cond live W []; rounds = r; looks = l; settled = s }

-- a run is live but where its begin was refused
abbrev pub is_live : Phase → Bool
is_live Refused = false
is_live Open = true
is_live Settled = true

-- it is settled once a round has marked no place
abbrev pub is_settled : Phase → Bool
is_settled Refused = false
is_settled Open = false
is_settled Settled = true

-- whether the run is live
abbrev pub live_of : Run → Bool
live_of run = is_live run.phase

-- what the run holds
abbrev pub state_of : Run → State
state_of run = state (is_live run.phase) run.table.now run.made.rounds run.made.looks (is_settled run.phase)

-- a run before its first round
abbrev pub start : List ℕ → State
start W = record { words = W; rounds = 0; looks = 0; settled = false }

-- a begin on g over the words W gives the run: live with the table begun, or, where arena and table do not fit, with every word as it was
abbrev pub Begins : Game → List ℕ → Run → Type 0
Begins g W run =
    (Fits g (length W) × (live_of run ≡ true) × (length run.table.now ≡ length W) × Begun g run.table.now × (state_of run ≡ start run.table.now)) ⊎
    ((Fits g (length W) → ⊥) × (live_of run ≡ false) × (run.table.now ≡ W) × (state_of run ≡ start []))

-- a counter stops at the largest number of 64 bits
abbrev pub capped : ℕ → ℕ
capped n = min n 18446744073709551615

-- a round that is made, and the m places that it marks
pub record MakesRound (g : Game) (s t : State) (m : ℕ) : Type 0 where
  pub number : t.rounds ≡ min (s.rounds + 1) last_round
  pub rounded : Rounded g t.rounds s.words t.words
  pub long : length t.words ≡ length s.words
  pub marked : m + blanks g.size t.words ≡ blanks g.size s.words
  pub looked : t.looks ≡ capped (s.looks + looks_of g.rules g.size s.words)
  pub ends : t.settled ≡ (m == 0)

-- a round told g is accepted and marks m places; that of a settled run changes nothing
pub record AcceptsRound (g : Game) (s t : State) (m : ℕ) : Type 0 where
  pub fits : Fits g (length s.words)
  pub made : ((s.settled ≡ true) × (m ≡ 0) × (t ≡ s)) ⊎ ((s.settled ≡ false) × MakesRound g s t m)
