-- What the tally of a row of marks is.
use Rattle.std.specs.Prelude.{◌≡◌, ℕ, ◌+◌, ◌<◌, ◌≤◌, min, max, Bool, true, cond, ◌⊎◌, List, length, count_by, slice_index}
use Rattle.joining.specs.Meaning.{Meaning}
use Rattle.marks.specs.Marks.{is_capture, is_counted, is_never}
use Rattle.marks.specs.declared.tally.Tally.{Tally}

-- the number that a word holds: the largest word where it is too large
abbrev pub capped : ℕ → ℕ
capped n = min n 4294967295

-- how many entries of a row pass a test
abbrev pub count_of : (ℕ → Bool) → List ℕ → ℕ
count_of test row = count_by test row

-- 0, or one of the counts of a row
abbrev pub Taken : List ℕ → ℕ → Type 0
Taken row n = (n ≡ 0) ⊎ ((i : ℕ) × (i < length row) × (is_counted (slice_index row i) ≡ true) × (slice_index row i ≡ n))

-- The longest count of a row: no count is greater, and it is one of them or, where there is none, 0.
pub record Longest (row : List ℕ) (n : ℕ) : Type 0 where
  pub bounds : (i : ℕ) → i < length row → is_counted (slice_index row i) ≡ true → slice_index row i ≤ n
  pub taken : Taken row n

-- The tally of a row: how many marks of each kind it has, as far as a word holds that, and its longest count.
pub record Tallied (row : List ℕ) (tally : Tally) : Type 0 where
  pub captures : tally.capture ≡ capped (count_of is_capture row)
  pub counts : tally.counted ≡ capped (count_of is_counted row)
  pub nevers : tally.never ≡ capped (count_of is_never row)
  pub greatest : Longest row tally.longest

-- the tally of no mark
abbrev pub no_marks : Tally
no_marks = record { capture = 0; counted = 0; never = 0; longest = 0 }

-- 1 where the test is passed
abbrev pub one_if : Bool → ℕ
one_if passed = cond passed 1 0

-- the tally of one mark
abbrev pub tallied : ℕ → Tally
tallied mark =
    record {
      capture = one_if (is_capture mark);
      counted = one_if (is_counted mark);
      never = one_if (is_never mark);
      longest = cond (is_counted mark) mark 0;
    }

-- the join of two tallies
abbrev pub summed : Tally → Tally → Tally
summed x y =
    record {
      capture = capped (x.capture + y.capture);
      counted = capped (x.counted + y.counted);
      never = capped (x.never + y.never);
      longest = max x.longest y.longest;
    }

-- the three sums fit words
pub record Words (tally : Tally) : Type 0 where
  pub capture_word : tally.capture ≤ 4294967295
  pub counted_word : tally.counted ≤ 4294967295
  pub never_word : tally.never ≤ 4294967295

-- What counting marks means.
abbrev pub counting : Meaning Tally
counting = record { neutral = no_marks; joined = summed; single = λ mark _. tallied mark; holds = Words }
