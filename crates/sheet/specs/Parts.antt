-- What the parts of the reader answer.
use Rattle.std.specs.Prelude.{◌≡◌, ℕ, ◌<◌, ◌≤◌, ◌⊎◌, List, [], ◌++◌, length, drop, Some, None, vec_items, Option, Result, MatchResult}
use Rattle.board.specs.declared.draft.refusal.GateRefusal.{GateRefusal}
use Rattle.board.specs.declared.draft.refusal.GateRefusal.TheVariants as draft
use Rattle.board.specs.declared.draft.refusal.GateRefusal.TheVariants.{OffBoard, EqualEnds, RepeatedPair, TooMany}
use Rattle.board.specs.Drafts.{draft_spots, draft_gates}
use Rattle.lines.specs.declared.line.Read.{Read}
use Rattle.lines.specs.declared.refusal.Told.{Told}
use Rattle.lines.specs.Lines.{Entry, LineAt}
use Rattle.sheet.specs.declared.reading.Reading.{Reading}
use Rattle.sheet.specs.declared.refusal.Refusal.{Refusal}
use Rattle.sheet.specs.declared.refusal.Refusal.TheVariants.{OutOfRange, Repeated, TooManyGates, NoMemory}
use Rattle.sheet.specs.declared.sheet.Sheet.{Sheet}
use Rattle.sheet.specs.Refusals.{board_rule, told}
use Rattle.sheet.specs.Says.{Held, added, after, written, rows, kept}
use Rattle.sheet.specs.Rules.{Over, Within, breaches, Clean, First, Lawful, Fault}
use Rattle.sheet.specs.Readings.{Grows}

-- what was read so far
abbrev pub said : Reading → Held
said r = record { spots = draft_spots r.draft; gates = rows (draft_gates r.draft); traps = vec_items r.traps }

-- the text up to the offset `at` is lawful lines that say s
pub record Begun (text : List ℕ) (at : ℕ) (s : Option Held) : Type 0 where
  pub lines : List Entry
  pub rest : List ℕ
  pub lawful : Lawful None lines
  pub whole : text ≡ written lines ++ rest
  pub here : at ≡ length (written lines)
  pub says : after None lines ≡ s

-- why no line was read, whatever was said before
abbrev pub Stopped : List ℕ → ℕ → Option Told → Type 0
Stopped text at None = ⊥
Stopped text at (Some t) = (s : Option Held) → Fault s at (drop at text) t

-- the next line, or why there is none
abbrev pub Next : List ℕ → ℕ → Result Read Refusal → Type 0
Next text at r = MatchResult r (λ x. LineAt at (drop at text) x) (λ why. Stopped text at (told why))

-- why a line at the offset `at` is not taken
abbrev pub TurnedDown : Held → ℕ → Entry → Option Told → Type 0
TurnedDown s at e None = Clean (breaches (Some s) e []) × Grows e
TurnedDown s at e (Some t) = First at (breaches (Some s) e []) t

-- a line at the offset `at` is taken, and s' is said then, or why not
abbrev pub Takes : Held → ℕ → Entry → Held → Result (Unit {0}) Refusal → Type 0
Takes s at e s' r = MatchResult r (λ _. Clean (breaches (Some s) e []) × (Some s' ≡ added (Some s) e)) (λ why. TurnedDown s at e (told why))

-- why a gate's line at the offset `at` is refused, by what its draft says
abbrev pub gate_refusal : GateRefusal → ℕ → Refusal
gate_refusal OffBoard at = OutOfRange at
gate_refusal EqualEnds at = Repeated at
gate_refusal RepeatedPair at = Repeated at
gate_refusal TooMany at = TooManyGates at
gate_refusal draft.NoMemory at = NoMemory

-- what the end gives, where the last line ends at `stop` of a text of `len` bytes
abbrev pub Ended : Held → ℕ → ℕ → Result Sheet Refusal → Type 0
Ended s stop len r = MatchResult r (λ x. (kept x ≡ s) × (len ≤ stop) × Within s) (λ why. ((stop < len) × (told why ≡ Some (board_rule 6 stop))) ⊎ ((len ≤ stop) × Over s × (told why ≡ Some (board_rule 10 stop))))
