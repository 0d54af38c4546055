-- What a board in the making has.
use Rattle.std.specs.Prelude.{ℕ, List, vec_items}
use Rattle.board.specs.declared.gate.Gate.{Gate}
use Rattle.board.specs.declared.draft.Draft.{Draft}

-- how many spots it has
abbrev pub draft_spots : Draft → ℕ
draft_spots d = d.spots

-- its gates so far, in listed order
abbrev pub draft_gates : Draft → List Gate
draft_gates d = vec_items d.gates
