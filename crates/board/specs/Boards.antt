-- What a board has.
use Rattle.std.specs.Prelude.{ℕ, List}
use Rattle.board.specs.declared.gate.Gate.{Gate}
use Rattle.board.specs.Drafts.{draft_gates, draft_spots}
use Rattle.board.specs.declared.board.Board.{Board}

-- how many spots it has
abbrev pub spots_of : Board → ℕ
spots_of b = draft_spots b.draft

-- the length of its clock
abbrev pub period_of : Board → ℕ
period_of b = b.period

-- its gates, in listed order
abbrev pub gates_of : Board → List Gate
gates_of b = draft_gates b.draft
