-- The clock of gates depends on their rows alone.
use Rattle.std.proofs.Common.{◌≡◌, ℕ, ◌%◌, ◌≤◌, Bool, true, ◌&&◌, eqb, List, [], ◌∷◌, sym, refl, ap, ◌∙◌, subst}
use Rattle.board.proofs.Clocks.{period_unique}
use Rattle.board.specs.declared.gate.Gate.{Gate}
use Rattle.board.specs.Clock.{divided, Period}
use Rattle.board.specs.Gates.{places}
use Rattle.sheet.specs.Rules.{Within}
use Rattle.sheet.specs.Says.{Row, rows}

row_divided : ℕ → List Row → Bool
row_divided m [] = true
row_divided m (r ∷ rs) = eqb (m % r.steps) 0 && row_divided m rs

divided_is : (m : ℕ) (gs : List Gate) → divided m gs ≡ row_divided m (rows gs)
unfolding row_divided
divided_is m [] = refl
divided_is m (g ∷ gs) = ap (λ b. eqb (m % g.pattern.steps) 0 && b) (divided_is m gs)

-- gates with the same rows are divided by the same numbers
same_divided : (m : ℕ) (gs hs : List Gate) → rows gs ≡ rows hs → divided m gs ≡ divided m hs
same_divided m gs hs e = divided_is m gs ∙ ap (row_divided m) e ∙ sym (divided_is m hs)

same_period : (gs hs : List Gate) (T : ℕ) → rows gs ≡ rows hs → Period gs T → Period hs T
same_period gs hs T e h = (h.0, sym (same_divided T gs hs e) ∙ h.1, λ m d. h.2 m (same_divided m gs hs e ∙ d))

-- a board's limit is the sheet's
pub board_within : (n : ℕ) (gs : List Gate) (ts : List ℕ) (T : ℕ) → Period gs T → places n T ≤ 1048576 → Within (record { spots = n; gates = rows gs; traps = ts })
board_within n gs ts T clock small U k =
    let same : U ≡ T = period_unique gs U T (same_period k.0 gs U k.1 k.2) clock in
    subst (λ x. places n x ≤ 1048576) (sym same) small
