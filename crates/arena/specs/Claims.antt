-- What the marks and the two plans of a table claim, of whole plays. A mark below never is a count.
use Rattle.std.specs.Prelude.{◌≡◌, ℕ, ◌<◌, ◌≤◌, Bool, true, false, T, List, ◌≢◌}
use Rattle.arena.specs.declared.player.Player.TheVariants.{Runner}
use Rattle.marks.specs.Marks.{never, none}
use Rattle.arena.specs.Game.{Rules, degree, move, caught}
use Rattle.arena.specs.Plays.{Play, newest, made, From, Strategy, plan, Follows, Lawful, Forces}

-- What the marks μ and the move words w claim of plays from p. The words at the pursuer's places are its plan, those at the runner's places the runner's.
pub record ClaimsAt (R : Rules) (μ w : ℕ → ℕ) (p : ℕ) : Type 0 where
  -- the words are plans: none where the runner is caught, elsewhere a move that there is
  pub idle : caught R p ≡ true → w p ≡ none
  pub named : caught R p ≡ false → w p < degree R p
  -- a count k: the pursuer's plan forces capture in k moves, no pursuer strategy needs fewer, and the runner's plan meets none before move k
  pub forced : μ p < never → Forces R (plan w) p (μ p)
  pub least : μ p < never → (s : Strategy) → Lawful R p s → (j : ℕ) → Forces R s p j → μ p ≤ j
  pub held : μ p < never → (h : List ℕ) → Play R h → From p h → Follows R Runner (plan w) h → caught R (newest h) ≡ true → μ p ≤ made h
  -- never: no pursuer strategy forces capture in any number of moves, and no play that follows the runner's plan meets capture
  pub unforced : never ≤ μ p → (s : Strategy) → Lawful R p s → (j : ℕ) → Forces R s p j → ⊥
  pub uncaught : never ≤ μ p → (h : List ℕ) → Play R h → From p h → Follows R Runner (plan w) h → caught R (newest h) ≢ true

-- the claim from every place of D
abbrev pub Claims : Rules → (ℕ → Bool) → (ℕ → ℕ) → (ℕ → ℕ) → Type 0
Claims R D μ w = (p : ℕ) → T (D p) → ClaimsAt R μ w p

-- no move leads out of D, but from where the runner is caught
abbrev pub Closed : Rules → (ℕ → Bool) → Type 0
Closed R D = (p : ℕ) → T (D p) → caught R p ≡ false → (i : ℕ) → i < degree R p → T (D (move R p i))
