-- All that is claimed of a finished table, and of the rounds and looks that made it.
use Rattle.std.specs.Prelude.{◌≡◌, ℕ, zero, suc, ◌+◌, ◌<◌, ◌≤◌, false, cond, ◌⊎◌, List, nat_le}
use Rattle.arena.specs.Game.{Game, Rules, degree, caught, places}
use Rattle.arena.specs.Labels.{Labelled}
use Rattle.arena.specs.Levels.{ByLevels, CountsAttractor}
use Rattle.arena.specs.Tables.{TrueTable, TrueFolded}
use Rattle.marks.specs.Marks.{never}
use Rattle.rounds.specs.Words.{Best, marks_of, moves_of}

-- how many moves the first n places have whose mark is at least i; never is above every count
abbrev pub moves_from : Rules → (ℕ → ℕ) → ℕ → ℕ → ℕ
moves_from R μ i zero = 0
moves_from R μ i (suc n) = cond (nat_le i (μ n)) (degree R n) 0 + moves_from R μ i n

-- the looks of the first r rounds: the sum over i from 1 to r of the moves of all places whose mark is at least i or never
abbrev pub looks_sum : Game → (ℕ → ℕ) → ℕ → ℕ
looks_sum g μ zero = 0
looks_sum g μ (suc r) = looks_sum g μ r + moves_from g.rules μ (suc r) g.size

-- K is the longest count, 0 if no place has one
pub record LongestCount (g : Game) (μ : ℕ → ℕ) (K : ℕ) : Type 0 where
  pub bounds : (p : ℕ) → p < g.size → μ p < never → μ p ≤ K
  pub taken : (K ≡ 0) ⊎ ((p : ℕ) × (p < g.size) × (μ p ≡ K))

-- What a finished table V claims, in so many words: the marks and both plans are so, of whole plays, in the game and in every game that folds onto it;
-- the marks are levels and labels, the counts the attractor; each move word is the first best; rounds are one more than the longest count, and looks the sum.
pub record Whole (g : Game) (rounds looks : ℕ) (V : List ℕ) : Type 0 where
  pub claims : TrueTable g V
  pub folded : TrueFolded g V
  pub levels : ByLevels g.rules (places g) (marks_of V)
  pub labels : Labelled g.rules (places g) (marks_of V)
  pub attractor : CountsAttractor g.rules (places g) (marks_of V)
  pub best : (p : ℕ) → p < g.size → caught g.rules p ≡ false → Best g.rules (marks_of V) p (moves_of g V p)
  pub settled : (K : ℕ) × LongestCount g (marks_of V) K × (rounds ≡ suc K)
  pub looked : looks ≡ looks_sum g (marks_of V) rounds
