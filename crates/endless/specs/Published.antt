-- The published moves of a gated board, in terms of steps, turns and spots.
use Rattle.std.specs.Prelude.{◌≡◌, ℕ, true, ◌⊎◌, List, [], ◌∷◌}
use Rattle.board.specs.declared.gate.Gate.{Gate}
use Rattle.board.specs.Gates.{is_open}
use Rattle.gated.specs.Places.{step_of, turn_of, pursuer_of, runner_of}

-- x stands in a list
abbrev pub In : {X : Type 0} → X → List X → Type 0
In x [] = ⊥
In x (y ∷ ys) = (y ≡ x) ⊎ In x ys

-- the ends of a gate are u and v, either way round
abbrev pub Between : Gate → ℕ → ℕ → Type 0
Between g u v = ((g.from ≡ u) × (g.to ≡ v)) ⊎ ((g.from ≡ v) × (g.to ≡ u))

-- the edge {u, v} is present at step t: some gate between u and v is open then
abbrev pub Edge : List Gate → ℕ → ℕ → ℕ → Type 0
Edge gates t u v = (g : Gate) × In g gates × (is_open g t ≡ true) × Between g u v

-- a player at u stays there at step t, or passes an edge that is present then, to v
abbrev pub Goes : List Gate → ℕ → ℕ → ℕ → Type 0
Goes gates t u v = (v ≡ u) ⊎ Edge gates t u v

-- the pursuer moves: the turn passes to the runner, the step and the runner's spot are kept
pub record PursuerMoves (n : ℕ) (gates : List Gate) (p q : ℕ) : Type 0 where
  pub turn : turn_of n p ≡ 0
  pub turn_passes : turn_of n q ≡ 1
  pub step_kept : step_of n q ≡ step_of n p
  pub runner_kept : runner_of n q ≡ runner_of n p
  pub goes : Goes gates (step_of n p) (pursuer_of n p) (pursuer_of n q)

-- the runner moves: the turn passes to the pursuer, the clock moves on, the pursuer's spot is kept
pub record RunnerMoves (n : ℕ) (after : ℕ → ℕ) (gates : List Gate) (p q : ℕ) : Type 0 where
  pub turn : turn_of n p ≡ 1
  pub turn_passes : turn_of n q ≡ 0
  pub step_on : step_of n q ≡ after (step_of n p)
  pub pursuer_kept : pursuer_of n q ≡ pursuer_of n p
  pub goes : Goes gates (step_of n p) (runner_of n p) (runner_of n q)

-- q is a successor of p, on n spots with these gates, where the clock goes from each step to the one after it
abbrev pub PublishedStep : ℕ → (ℕ → ℕ) → List Gate → ℕ → ℕ → Type 0
PublishedStep n after gates p q = PursuerMoves n gates p q ⊎ RunnerMoves n after gates p q
