-- What the reader of sheets answers.
use Rattle.std.specs.Prelude.{◌≡◌, ℕ, ◌⊎◌, List, [], ◌++◌, IfOk, Some, None, Ok, Err, Option, Result, MatchResult}
use Rattle.lines.specs.declared.refusal.Told.{Told}
use Rattle.lines.specs.Lines.{Entry, board, gate, trap, end, Formed, line_bytes}
use Rattle.sheet.specs.declared.refusal.Refusal.{Refusal}
use Rattle.sheet.specs.declared.sheet.Sheet.{Sheet}
use Rattle.sheet.specs.Refusals.{told}
use Rattle.sheet.specs.Says.{Held, after, written, kept}
use Rattle.sheet.specs.Rules.{Clean, breaches, Lawful, Writes, BrokenAt, LawfulTraps}

-- the line asks for memory
abbrev pub Grows : Entry → Type 0
Grows (board n) = ⊥
Grows (gate u v p) = Unit {0}
Grows (trap v) = Unit {0}
Grows end = ⊥

-- lawful lines, and a lawful gate or trap after them: where memory can be wanting
pub record Wanting (text : List ℕ) : Type 0 where
  pub lines : List Entry
  pub entry : Entry
  pub more : List ℕ
  pub lawful : Lawful None lines
  pub whole : text ≡ written lines ++ (line_bytes entry ++ more)
  pub formed : Formed entry
  pub clean : Clean (breaches (after None lines) entry [])
  pub grows : Grows entry

-- what a refusal says of the text, by what it tells
abbrev pub Explains : List ℕ → Option Told → Type 0
Explains text (Some t) = BrokenAt text t
Explains text None = Wanting text

-- s is given, unless memory is wanting
abbrev pub Gives : Held → Result Sheet Refusal → Type 0
Gives s (Ok x) = kept x ≡ s
Gives s (Err why) = told why ≡ None

-- t is told, unless memory is wanting
abbrev pub Tells : Told → Result Sheet Refusal → Type 0
Tells t (Ok x) = ⊥
Tells t (Err why) = (told why ≡ Some t) ⊎ (told why ≡ None)

-- the answer is right
abbrev pub Right : List ℕ → Result Sheet Refusal → Type 0
Right text a = MatchResult a (λ x. Writes text (kept x)) (λ why. Explains text (told why))

-- the answer is right, its traps are lawful, and what is right is the answer: a text that is a sheet is read as what it says, and one that is broken is refused for that
pub record Reads (text : List ℕ) (a : Result Sheet Refusal) : Type 0 where
  pub right : Right text a
  pub traps : IfOk a (λ x. LawfulTraps (kept x).spots (kept x).traps)
  pub sheet : (s : Held) → Writes text s → Gives s a
  pub refusal : (t : Told) → BrokenAt text t → Tells t a
