-- Tables of rules: a first breach is the only one, and what follows a line matters only to the last.
use Rattle.std.proofs.Common.{◌≡◌, ℕ, List, [], Some, None, Option, sym, ◌∙◌, inl, inr}
use Rattle.lines.specs.declared.refusal.Told.{Told}
use Rattle.lines.specs.Lines.{Entry, board, gate, trap, end}
use Rattle.sheet.specs.Says.{Held}
use Rattle.sheet.specs.Rules.{Breaches, none, breach, breaches, Clean, First, GoesOn}

-- a table has one first breach
pub first_once : (at : ℕ) (b : Breaches) (t u : Told) → First at b t → First at b u → t ≡ u
first_once at none t u h k = absurd h
first_once at (breach n l place P more) t u h k =
    elim h [
      | inl x ↦ elim k [ inl y ↦ x.1 ∙ sym y.1 | inr y ↦ absurd (y.0 x.0) ]
      | inr x ↦ elim k [ inl y ↦ absurd (x.0 y.0) | inr y ↦ first_once at more t u x.1 y.1 ]
    ]

-- and none if it is clean
pub first_clean : (at : ℕ) (b : Breaches) (t : Told) → First at b t → Clean b → ⊥
first_clean at none t h c = h
first_clean at (breach n l place P more) t h c = elim h [ inl x ↦ c.0 x.0 | inr x ↦ first_clean at more t x.1 c.1 ]

-- what follows a line that does not end the sheet breaks no rule of it
pub any_more : (P : Breaches → Type 0) (s : Option Held) (e : Entry) (more : List ℕ) → GoesOn e → P (breaches s e []) → P (breaches s e more)
any_more P None (board n) more on h = h
any_more P None (gate u v p) more on h = h
any_more P None (trap v) more on h = h
any_more P None end more on h = absurd on
any_more P (Some s) (board n) more on h = h
any_more P (Some s) (gate u v p) more on h = h
any_more P (Some s) (trap v) more on h = h
any_more P (Some s) end more on h = absurd on
