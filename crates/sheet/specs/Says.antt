-- What the lines of a sheet say, and what a board has.
use Rattle.std.specs.Prelude.{ℕ, List, [], ◌∷◌, ◌++◌, length, Some, None, vec_items, Option}
use Rattle.board.specs.declared.gate.Gate.{Gate}
use Rattle.board.specs.Boards.{spots_of, gates_of}
use Rattle.lines.specs.Lines.{Entry, board, gate, trap, end, line_bytes}
use Rattle.lines.specs.Values.{decimal, bits}
use Rattle.sheet.specs.declared.sheet.Sheet.{Sheet}

-- a gate: its ends, its pattern's bits and how many steps it has
pub record Row : Type 0 where
  pub from : ℕ
  pub to : ℕ
  pub bits : ℕ
  pub steps : ℕ

-- the number of spots, and the gates and the traps in listed order
pub record Held : Type 0 where
  pub spots : ℕ
  pub gates : List Row
  pub traps : List ℕ

-- the gate of a line
abbrev pub row : List ℕ → List ℕ → List ℕ → Row
row u v p = record { from = decimal u; to = decimal v; bits = bits p; steps = length p }

-- what is said with one line more; nothing is said ahead of the board's line
abbrev pub added : Option Held → Entry → Option Held
added None (board n) = Some (record { spots = decimal n; gates = []; traps = [] })
added None (gate u v p) = None
added None (trap v) = None
added None end = None
added (Some s) (board n) = Some s
added (Some s) (gate u v p) = Some (record { spots = s.spots; gates = s.gates ++ (row u v p ∷ []); traps = s.traps })
added (Some s) (trap v) = Some (record { spots = s.spots; gates = s.gates; traps = s.traps ++ (decimal v ∷ []) })
added (Some s) end = Some s

-- what is said with these lines more
abbrev pub after : Option Held → List Entry → Option Held
after s [] = s
after s (e ∷ es) = after (added s e) es

-- the bytes of lines
abbrev pub written : List Entry → List ℕ
written [] = []
written (e ∷ es) = line_bytes e ++ written es

-- a gate of a board
abbrev pub row_of : Gate → Row
row_of g = record { from = g.from; to = g.to; bits = g.pattern.bits; steps = g.pattern.steps }

-- the gates of a board
abbrev pub rows : List Gate → List Row
rows [] = []
rows (g ∷ gs) = row_of g ∷ rows gs

-- what a sheet that was read has
abbrev pub kept : Sheet → Held
kept s = record { spots = spots_of s.board; gates = rows (gates_of s.board); traps = vec_items s.traps }
