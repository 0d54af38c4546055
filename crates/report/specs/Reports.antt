-- What is told of a sheet: the report of its solved board, or why there is none.
use Rattle.std.specs.Prelude.{◌≡◌, ℕ, ◌<◌, ◌≤◌, ◌⊎◌, List, length, take, None, Ok, Err, vec_items, ◌≢◌}
use Rattle.board.specs.declared.board.Board.{Board}
use Rattle.board.specs.Boards.{spots_of, period_of, gates_of}
use Rattle.board.specs.Gates.{places}
use Rattle.marks.specs.Tallies.{Tallied}
use Rattle.marks.specs.Unique.{TheOne}
use Rattle.opening.specs.Openings.{Opens}
use Rattle.pursuit.specs.Solved.{BoardSolved}
use Rattle.sheet.specs.Readings.{Reads}
use Rattle.sheet.specs.Refusals.{told}
use Rattle.sheet.specs.declared.sheet.Sheet.{Sheet}
use Rattle.report.specs.declared.failure.Failure.{Failure}
use Rattle.report.specs.declared.failure.Failure.TheVariants.{TooLarge, Refused, NoMemory}
use Rattle.report.specs.declared.report.Report.{Report}

-- how many places a board has
abbrev pub places_of : Board → ℕ
places_of b = places (spots_of b) (period_of b)

-- the report tells of the board with these traps: its numbers, and by some finished table that makes the whole claim the tally of all marks and the opening
pub record ToldOf (b : Board) (traps : List ℕ) (r : Report) : Type 0 where
  pub spots : r.spots ≡ spots_of b
  pub gates : r.gates ≡ length (gates_of b)
  pub period : r.period ≡ period_of b
  pub places : r.places ≡ places_of b
  pub table : List ℕ
  pub solved : BoardSolved b traps r.solved.rounds r.solved.looks table
  pub tallied : TheOne (Tallied (take (places_of b) table)) r.solved.tally
  pub opens : Opens (spots_of b) table r.opening

-- the text is no longer than 4096 bytes and read as a sheet whose board has at most 4096 places, and the report tells of that board
pub record Reports (text : List ℕ) (r : Report) : Type 0 where
  pub short : length text ≤ 4096
  pub sheet : Sheet
  pub reads : Reads text (Ok sheet)
  pub small : places_of sheet.board ≤ 4096
  pub tells : ToldOf sheet.board (vec_items sheet.traps) r

-- why there is no report
abbrev pub Fails : List ℕ → Failure → Type 0
Fails text TooLarge = (4096 < length text) ⊎ ((length text ≤ 4096) × ((s : Sheet) × Reads text (Ok s) × (4096 < places_of s.board)))
Fails text (Refused why) = (length text ≤ 4096) × Reads text (Err why) × (told why ≢ None)
Fails text NoMemory = length text ≤ 4096
