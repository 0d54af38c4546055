-- Why a number of spots makes no board.
use Rattle.std.specs.Prelude.{ℕ, List, []}
use Rattle.board.specs.Gates.{LawfulSpots}
use Rattle.board.specs.declared.draft.refusal.SpotsRefusal.{SpotsRefusal}
use Rattle.board.specs.declared.draft.refusal.SpotsRefusal.TheVariants.{OutOfRange}

-- the number of the refusal, and its values
abbrev pub told : SpotsRefusal → ℕ × List ℕ
told OutOfRange = (7, [])

-- what is wrong
abbrev pub Cause : ℕ → SpotsRefusal → Type 0
Cause n OutOfRange = LawfulSpots n → ⊥
