-- What a line says.
use Rattle.std.specs.Prelude.{◌≡◌, ℕ, ◌+◌, List, [], ◌∷◌, length}
use Rattle.lines.specs.declared.line.Line.{Line}
use Rattle.lines.specs.declared.line.Line.TheVariants.{Board, Gate, Trap, End}
use Rattle.lines.specs.declared.line.Mark.{Mark}
use Rattle.lines.specs.declared.line.Mark.TheVariants as mark
use Rattle.lines.specs.declared.part.Part.{Part}
use Rattle.lines.specs.Grammar.{Forms, spaced, kinds, first, second}

-- a line, by the texts of its fields
pub data Entry : Type 0 where
  board : List ℕ → Entry
  gate : List ℕ → List ℕ → List ℕ → Entry
  trap : List ℕ → Entry
  end : Entry

-- its mark
abbrev pub mark_of : Entry → Mark
mark_of (board n) = mark.Board
mark_of (gate u v p) = mark.Gate
mark_of (trap v) = mark.Trap
mark_of end = mark.End

-- its fields in their order
abbrev pub texts : Entry → List (List ℕ)
texts (board n) = n ∷ []
texts (gate u v p) = u ∷ v ∷ p ∷ []
texts (trap v) = v ∷ []
texts end = []

-- its fields are in form
abbrev pub Formed : Entry → Type 0
Formed e = Forms (kinds (mark_of e)) (texts e)

-- its bytes
abbrev pub line_bytes : Entry → List ℕ
line_bytes e = first (mark_of e) ∷ second (mark_of e) ∷ spaced (texts e)

-- what a line that was read says
abbrev pub entry_of : Line → Entry
entry_of (Board n) = board n.bytes.now
entry_of (Gate u v p) = gate u.bytes.now v.bytes.now p.bytes.now
entry_of (Trap v) = trap v.bytes.now
entry_of End = end

-- its fields as parts of the sheet
abbrev pub fields : Line → List Part
fields (Board n) = n ∷ []
fields (Gate u v p) = u ∷ v ∷ p ∷ []
fields (Trap v) = v ∷ []
fields End = []

-- each field's offset is where it lies, where the first space is at `at`
abbrev pub Laid : ℕ → List Part → Type 0
Laid at [] = Unit {0}
Laid at (f ∷ fs) = (f.offset ≡ at + 1) × Laid (at + 1 + length f.bytes.now) fs
