-- Why a board is not solved, or a table of it not accepted.
use Rattle.std.specs.Prelude.{ℕ, List, Option, Some}
use Rattle.arena.specs.Unfit.{Cause}
use Rattle.arena.specs.declared.unfit.Unfit.{Unfit}
use Rattle.board.specs.declared.board.Board.{Board}
use Rattle.board.specs.Boards.{spots_of}
use Rattle.gated.specs.TrapRefused.{Cause as TrapCause, told as told_traps, rule_told as rule_of_traps}
use Rattle.pursuit.specs.declared.refusal.BoardRefusal.{BoardRefusal}
use Rattle.pursuit.specs.declared.refusal.BoardRefusal.TheVariants.{Traps, Table}
use Rattle.pursuit.specs.Solved.{trapped_game}

-- the number of each refusal, and its values, given those of what is wrong with a table; want of memory has no number
abbrev pub told : {W : Type 0} → (W → ℕ × List ℕ) → BoardRefusal W → ℕ × List ℕ
told told_table (Traps why) = told_traps why
told told_table (Table why) = told_table why

-- the same, with nothing in place of the 0 that stands for no number
abbrev pub rule_told : {W : Type 0} → (W → ℕ × List ℕ) → BoardRefusal W → Option (ℕ × List ℕ)
rule_told told_table (Traps why) = rule_of_traps why
rule_told told_table (Table why) = Some (told_table why)

-- what is wrong with the traps of a board, or with its table
abbrev pub CauseOf : {W : Type 0} → Board → List ℕ → (W → Type 0) → BoardRefusal W → Type 0
CauseOf b traps TableCause (Traps why) = TrapCause (spots_of b) traps why
CauseOf b traps TableCause (Table why) = TableCause why

-- what is wrong with the traps of a board, or with a table of so many words
abbrev pub BoardCause : Board → List ℕ → ℕ → BoardRefusal Unfit → Type 0
BoardCause b traps words = CauseOf b traps (Cause (trapped_game b traps) words)
