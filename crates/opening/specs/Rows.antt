-- The marks where a game starts: at step 0 with the pursuer to move, a row for each pursuer spot, and in it a mark for each runner spot.
use Rattle.std.specs.Prelude.{ℕ, ◌*◌, List, take, drop}
use Rattle.marks.specs.Picks.{Greatest, FirstBest}

-- the row of the pursuer spot c, of n spots: the place with the runner at r is number c * n + r
abbrev pub row : ℕ → List ℕ → ℕ → List ℕ
row n marks c = take n (drop (c * n) marks)

-- against the pursuer at c the greatest mark is m, and r is the first runner spot with it
abbrev pub Replies : ℕ → List ℕ → ℕ → ℕ → ℕ → Type 0
Replies n marks c m r = FirstBest Greatest (row n marks c) m r
