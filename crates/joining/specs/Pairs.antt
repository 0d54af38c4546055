-- Two joinings side by side.
use Rattle.std.specs.Prelude.{ℕ}
use Rattle.joining.specs.Meaning.{Meaning}
use Rattle.joining.specs.declared.pair.Pair.{Pair}

-- the pair of two values
abbrev pub paired : {A B : Type 0} → A → B → Pair A B
paired x y = record { first = x; second = y }

-- the join of pairs, part by part
abbrev pub joined_parts : {A B : Type 0} → (A → A → A) → (B → B → B) → Pair A B → Pair A B → Pair A B
joined_parts joined joined' x y = paired (joined x.first y.first) (joined' x.second y.second)

-- what a mark at a position counts as in both
abbrev pub single_parts : {A B : Type 0} → (ℕ → ℕ → A) → (ℕ → ℕ → B) → ℕ → ℕ → Pair A B
single_parts single single' mark position = paired (single mark position) (single' mark position)

-- the meaning of the pair, of those of its parts
abbrev pub side_by_side : {A B : Type 0} → Meaning A → Meaning B → Meaning (Pair A B)
side_by_side left right =
    record {
      neutral = paired left.neutral right.neutral;
      joined = joined_parts left.joined right.joined;
      single = single_parts left.single right.single;
      holds = λ x. left.holds x.first × right.holds x.second;
    }
