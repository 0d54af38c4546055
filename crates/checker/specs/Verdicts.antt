-- When a table from elsewhere is accepted, and why not.
use Rattle.std.specs.Prelude.{◌≡◌, ℕ, ◌<◌, List, [], ◌∷◌, length, Result, MatchResult}
use Rattle.arena.specs.Game.{Game}
use Rattle.arena.specs.Tables.{TrueTable, TrueFolded}
use Rattle.arena.specs.Unfit.{Fits, Cause as Misfits, told as told_unfit}
use Rattle.checker.specs.Obeys.{ObeysAt}
use Rattle.checker.specs.declared.refusal.CheckRefusal.{CheckRefusal}
use Rattle.checker.specs.declared.refusal.CheckRefusal.TheVariants.{Misfit, Fault}

-- the number of each refusal, and its values
abbrev pub told : CheckRefusal → ℕ × List ℕ
told (Misfit why) = told_unfit why
told (Fault p) = (19, p ∷ [])

-- the table V is accepted: it has the size of a sound game, and its marks and both plans are so of whole plays, in the game and in every game that folds onto it
pub record Accepted (g : Game) (V : List ℕ) : Type 0 where
  pub fits : Fits g (length V)
  pub so : TrueTable g V
  pub folded : TrueFolded g V

-- p is the first place that breaks the table rules
abbrev pub FirstFault : Game → List ℕ → ℕ → Type 0
FirstFault g V p = (p < g.size) × (ObeysAt g V p → ⊥) × ((k : ℕ) → k < p → ObeysAt g V k)

-- a table of the size of a sound game is refused at p: the first place at fault, so that the marks and both plans are not so
pub record Faulty (g : Game) (V : List ℕ) (p : ℕ) : Type 0 where
  pub fits : Fits g (length V)
  pub first : FirstFault g V p
  pub untrue : TrueTable g V → ⊥

-- why a table is not accepted; each cause only where those before it are absent
abbrev pub Cause : Game → List ℕ → CheckRefusal → Type 0
Cause g V (Misfit why) = Misfits g (length V) why
Cause g V (Fault p) = Faulty g V p

-- the answer to a table: it is accepted, or why not
abbrev pub Verdict : Game → List ℕ → Result (Unit {0}) CheckRefusal → Type 0
Verdict g V answer = MatchResult answer (λ _. Accepted g V) (Cause g V)

-- a table has one answer
abbrev pub OneVerdict : Type 0
OneVerdict = (g : Game) (V : List ℕ) (a b : Result (Unit {0}) CheckRefusal) → Verdict g V a → Verdict g V b → a ≡ b
