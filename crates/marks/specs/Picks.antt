-- The entry of a row that a player picks.
use Rattle.std.specs.Prelude.{◌≡◌, ℕ, ◌+◌, ◌%◌, ◌^◌, ◌<◌, ◌≤◌, Bool, cond, List, [], length, Option, Some, None, ◌≢◌, nat_lt, slice_index, slice_index_or}
use Rattle.joining.specs.Meaning.{Meaning}
use Rattle.marks.specs.declared.pick.Entry.{Entry}
use Rattle.marks.specs.declared.pick.Pick.{Pick}

-- Which mark of two is the better one.
pub data Order : Type 0 where
  Least : Order
  Greatest : Order

-- A mark at least as good as another: at most as great where the least is best, at least as great where the greatest is.
abbrev pub NoWorse : Order → ℕ → ℕ → Type 0
NoWorse Least mark other = mark ≤ other
NoWorse Greatest mark other = other ≤ mark

-- The best mark of a row, and the index of the first entry that has it.
pub record FirstBest (order : Order) (row : List ℕ) (mark index : ℕ) : Type 0 where
  pub within : index < length row
  pub there : slice_index_or row index 0 ≡ mark
  pub best : (i : ℕ) → i < length row → NoWorse order mark (slice_index row i)
  pub earliest : (i : ℕ) → i < index → slice_index row i ≢ mark

-- What is picked from a row: nothing if it is empty, and else the first entry with the best mark, where positions are counted on from `first` modulo 2 ^ 64.
abbrev pub Picked : Order → ℕ → List ℕ → Option Entry → Type 0
Picked order first row None = row ≡ []
Picked order first row (Some entry) = (index : ℕ) × FirstBest order row entry.mark index × (entry.position ≡ (first + index) % 2 ^ 64)

-- Whether a mark is better than another.
abbrev pub beats : Order → ℕ → ℕ → Bool
beats Least mark other = nat_lt mark other
beats Greatest mark other = nat_lt other mark

-- The join of two picks: the entry with the better mark, and of equal marks the left one.
abbrev pub better : Order → Option Entry → Option Entry → Option Entry
better order None right = right
better order (Some left) None = Some left
better order (Some left) (Some right) = cond (beats order right.mark left.mark) (Some right) (Some left)

-- A pick by a wish W.
abbrev pub picked : {W : Type 0} → Option Entry → Pick W
picked entry = record { entry = entry; wish = record {} }

-- What picking by an order means: the empty pick, the better of two, and a mark at a position as the entry.
abbrev pub picking : {W : Type 0} → Order → Meaning (Pick W)
picking order =
    record {
      neutral = picked None;
      joined = λ x y. picked (better order x.entry y.entry);
      single = λ mark position. picked (Some (record { mark = mark; position = position }));
      holds = λ _. Unit {0};
    }
