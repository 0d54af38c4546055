-- What the line reader answers.
use Rattle.std.specs.Prelude.{◌≡◌, ℕ, ◌+◌, min, List, ◌∷◌, ◌++◌, length, drop, IfOk, Result, MatchResult}
use Rattle.std.specs.List.{AllByRecursion}
use Rattle.lines.specs.declared.line.Mark.{Mark}
use Rattle.lines.specs.declared.line.Read.{Read}
use Rattle.lines.specs.declared.part.Part.{Part}
use Rattle.lines.specs.declared.refusal.Layer.TheVariants as layer
use Rattle.lines.specs.declared.refusal.Refusal.{Refusal}
use Rattle.lines.specs.declared.refusal.Told.{Told}
pub use Rattle.lines.specs.Entries.{Entry, board, gate, trap, end, mark_of, texts, Formed, line_bytes, entry_of, fields, Laid}
use Rattle.lines.specs.Grammar.{Marked, LineOf, Refused}
use Rattle.lines.specs.Refusals.{told}

-- r is a line at the front of l, which begins at the offset `at`
pub record LineAt (at : ℕ) (l : List ℕ) (r : Read) : Type 0 where
  pub after : List ℕ
  pub parts : l ≡ line_bytes (entry_of r.line) ++ after
  pub formed : Formed (entry_of r.line)
  pub laid : Laid (at + 2) (fields r.line)
  pub text : r.text.bytes.now ≡ line_bytes (entry_of r.line)
  pub offset : r.text.offset ≡ at
  pub next : r.next ≡ at + length (line_bytes (entry_of r.line))

-- why no line is at the front of l, which begins at the offset `at`: there is no mark, or no line of its mark goes on so
pub data Declined (at : ℕ) (l : List ℕ) (t : Told) : Type 0 where
  unmarked : ((m : Mark) (after : List ℕ) → Marked m l after → ⊥) → t ≡ record { number = 4; offset = at; layer = layer.Line } → Declined at l t
  unlined : (m : Mark) (after : List ℕ) (place : ℕ) → Marked m l after → Refused (LineOf m) at l place → t ≡ record { number = 5; offset = place; layer = layer.Line } → Declined at l t

-- the answer for what begins at the offset `at`
abbrev pub Answers : ℕ → List ℕ → Result Read Refusal → Type 0
Answers at l r = MatchResult r (λ x. LineAt at l x) (λ why. Declined at l (told why))

-- where a line asked for at the offset `at` begins: there, or at the sheet's end
abbrev pub start : List ℕ → ℕ → ℕ
start sheet at = min at (length sheet)

-- what the sheet has from there on
abbrev pub ahead : List ℕ → ℕ → List ℕ
ahead sheet at = drop (start sheet at) sheet

-- the sheet has these bytes at this offset
pub record PartOf (sheet : List ℕ) (p : Part) : Type 0 where
  pub before : List ℕ
  pub after : List ℕ
  pub whole : sheet ≡ before ++ (p.bytes.now ++ after)
  pub here : p.offset ≡ length before

-- the answer is right, what it holds are parts of the sheet, and no other is right: what begins with a line is read as that line, and a refusal is the only one
pub record Reads (sheet : List ℕ) (at : ℕ) (r : Result Read Refusal) : Type 0 where
  pub right : Answers (start sheet at) (ahead sheet at) r
  pub parts : IfOk r (λ x. AllByRecursion (PartOf sheet) (x.text ∷ fields x.line))
  pub line : (e : Entry) (after : List ℕ) → Formed e → ahead sheet at ≡ line_bytes e ++ after → MatchResult r (λ x. entry_of x.line ≡ e) (λ _. ⊥)
  pub refusal : (t : Told) → Declined (start sheet at) (ahead sheet at) t → MatchResult r (λ _. ⊥) (λ why. told why ≡ t)
