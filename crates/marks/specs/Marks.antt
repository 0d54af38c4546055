-- Marks and move words with a meaning of their own, and the kinds of marks.
use Rattle.std.specs.Prelude.{ℕ, Bool, ◌&&◌, ◌==◌, nat_le, nat_lt}

-- the mark of a place that has none yet
abbrev pub blank : ℕ
blank = 4294967294

-- the mark of a place from which capture is never forced
abbrev pub never : ℕ
never = 4294967295

-- the move word that names no move
abbrev pub none : ℕ
none = 4294967295

-- a capture place has mark 0
abbrev pub is_capture : ℕ → Bool
is_capture mark = mark == 0

-- a counted place has a mark from 1 up to below blank
abbrev pub is_counted : ℕ → Bool
is_counted mark = nat_le 1 mark && nat_lt mark blank

-- a never place has the mark never
abbrev pub is_never : ℕ → Bool
is_never mark = mark == never
