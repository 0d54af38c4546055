-- When an arena and a table of so many words fit, and why they do not.
use Rattle.std.specs.Prelude.{◌≡◌, ℕ, ◌*◌, List, [], ◌∷◌, Some, ◌≢◌}
use Rattle.arena.specs.Causes.{CausesExclude}
use Rattle.arena.specs.Game.{Game}
use Rattle.arena.specs.Sound.{Sized, PlacesSound, FirstUnsound}
use Rattle.arena.specs.declared.unfit.Unfit.{Unfit}
use Rattle.arena.specs.declared.unfit.Unfit.TheVariants.{Size, Words, Unsound}

-- the game is sound, and there are two words for each of its places
pub record Fits (g : Game) (words : ℕ) : Type 0 where
  pub sized : Sized g
  pub two_each : words ≡ 2 * g.size
  pub sound : PlacesSound g

-- the number of each refusal, and its values
abbrev pub told : Unfit → ℕ × List ℕ
told Size = (15, [])
told Words = (16, [])
told (Unsound p) = (17, p ∷ [])

-- what is wrong; each cause only where those before it are absent
abbrev pub Cause : Game → ℕ → Unfit → Type 0
Cause g words Size = Sized g → ⊥
Cause g words Words = Sized g × (words ≢ 2 * g.size)
Cause g words (Unsound p) = Sized g × (words ≡ 2 * g.size) × FirstUnsound g (Some p)

-- what is refused does not fit, and only one cause is there
abbrev pub Exact : Type 0
Exact = (g : Game) (words : ℕ) → CausesExclude (Fits g words) (Cause g words)
