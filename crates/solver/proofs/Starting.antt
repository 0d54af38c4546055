-- What a begin gives, and which arenas no run is told.
use Rattle.std.proofs.Common.{◌≡◌, ℕ, List, [], length, refl, arith}
use Rattle.arena.specs.Game.{Game}
use Rattle.arena.specs.Unfit.{Fits}
use Rattle.rounds.specs.Words.{Begun}
use Rattle.solver.specs.State.{state, is_live, is_settled}
use Rattle.solver.specs.Reached.{Reached}
use Rattle.solver.specs.declared.phase.Phase.{Phase}
use Rattle.solver.specs.declared.phase.Phase.TheVariants.{Open}

-- no arena fits an empty table
pub none_fits : (g : Game) → Fits g 0 → ⊥
none_fits g fits = omega (arith, fits.two_each, fits.sized.0)

-- a run that is begun is reached by no call
pub open_reached : (g : Game) (V : List ℕ) (phase : Phase) (rounds looks : ℕ) → Fits g (length V) → Begun g V → phase ≡ Open → rounds ≡ 0 → looks ≡ 0
    → Reached g (state (is_live phase) V rounds looks (is_settled phase))
open_reached g V phase rounds looks fits begun opened r l = ([], (V, fits, begun, rw (opened, r, l) refl))
