-- The causes why an arena and a table do not fit exclude each other, and that they fit.
use Rattle.std.proofs.Common.{◌≡◌, ℕ, refl, ap}
use Rattle.arena.proofs.First.{first_once}
use Rattle.arena.specs.Game.{Game}
use Rattle.arena.specs.Sound.{SoundAt}
use Rattle.arena.specs.Unfit.{Fits, Cause}
use Rattle.arena.specs.declared.unfit.Unfit.{Unfit}
use Rattle.arena.specs.declared.unfit.Unfit.TheVariants.{Size, Words, Unsound}

-- what is refused does not fit
pub misfit : (g : Game) (words : ℕ) (e : Unfit) → Cause g words e → Fits g words → ⊥
misfit g words Size cause fits = cause fits.sized
misfit g words Words cause fits = cause.1 fits.two_each
misfit g words (Unsound p) cause fits = cause.2.1 (fits.sound p cause.2.0)

-- only one cause is there
pub once : (g : Game) (words : ℕ) (d e : Unfit) → Cause g words d → Cause g words e → d ≡ e
once g words Size Size h k = refl
once g words Size Words h k = absurd (h k.0)
once g words Size (Unsound q) h k = absurd (h k.0)
once g words Words Size h k = absurd (k h.0)
once g words Words Words h k = refl
once g words Words (Unsound q) h k = absurd (h.1 k.1)
once g words (Unsound p) Size h k = absurd (k h.0)
once g words (Unsound p) Words h k = absurd (k.1 h.1)
once g words (Unsound p) (Unsound q) h k = ap Unsound (first_once (SoundAt g) p q h.2.1 h.2.2 k.2.1 k.2.2)
