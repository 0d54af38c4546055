-- What a finished table shows.
use Rattle.std.specs.Prelude.{ℕ, ◌/◌, List, [], cond, length, take}
use Rattle.solver.specs.declared.finished.Finished.{Finished}

-- the words of an accepted finish; a declined one shows none
abbrev pub shown : Finished → List ℕ
shown f = cond f.accepted f.table.now []

-- the marks are the first half of the words
abbrev pub shown_marks : Finished → List ℕ
shown_marks f = take (length (shown f) / 2) (shown f)
