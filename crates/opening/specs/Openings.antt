-- The opening: the least over pursuer starts of the greatest over runner starts.
use Rattle.std.specs.Prelude.{◌≡◌, ℕ, ◌<◌, ◌≤◌, List, ◌≢◌}
use Rattle.marks.specs.Tallies.{Tallied}
use Rattle.marks.specs.Unique.{TheOne}
use Rattle.opening.specs.declared.start.Opening.{Opening}
use Rattle.opening.specs.Rows.{row, Replies}

-- o tells of the pursuer at c: the greatest mark of its row, the first runner spot with it, and the tally of the row
pub record Starts (n : ℕ) (marks : List ℕ) (c : ℕ) (o : Opening) : Type 0 where
  pub pursuer : o.pursuer ≡ c
  pub replies : Replies n marks c o.mark o.runner
  pub tallied : TheOne (Tallied (row n marks c)) o.tally

-- o has the first pursuer spot below k whose greatest mark is least, the first runner spot with that mark, the mark, and the tally of the row
pub record OpensAmong (k n : ℕ) (marks : List ℕ) (o : Opening) : Type 0 where
  pub within : o.pursuer < k
  pub replies : Replies n marks o.pursuer o.mark o.runner
  pub least : (c m r : ℕ) → c < k → Replies n marks c m r → o.mark ≤ m
  pub earliest : (c m r : ℕ) → c < o.pursuer → Replies n marks c m r → m ≢ o.mark
  pub tallied : TheOne (Tallied (row n marks o.pursuer)) o.tally

-- the opening of a board of n spots
abbrev pub Opens : ℕ → List ℕ → Opening → Type 0
Opens n marks o = OpensAmong n n marks o
