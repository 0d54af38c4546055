-- The exits of every spot at every step, one row after another.
use Rattle.std.specs.Prelude.{◌≡◌, ℕ, zero, suc, ◌+◌, ◌/◌, ◌%◌, List, [], ◌++◌, map, length}
use Rattle.std.specs.List.{range_with_len}
use Rattle.board.specs.declared.gate.Gate.{Gate}
use Rattle.gated.specs.Exits.{exits_at}

-- row k, with a clock of T steps: the exits of the spot k / T at the step k mod T
abbrev pub row : ℕ → List Gate → ℕ → List ℕ
row T gates k = exits_at gates (k % T) (k / T)

-- the first k rows, one after another
abbrev pub rows : ℕ → List Gate → ℕ → List ℕ
rows T gates zero = []
rows T gates (suc k) = rows T gates k ++ row T gates k

-- where each of the first k rows starts, and where the last one ends
abbrev pub starts_of : ℕ → List Gate → ℕ → List ℕ
starts_of T gates k = map (λ j. length (rows T gates j)) (range_with_len 0 (k + 1))

-- the first k rows are listed, with their starts
abbrev pub Listed : ℕ → List Gate → ℕ → List ℕ → List ℕ → Type 0
Listed T gates k exits starts = (exits ≡ rows T gates k) × (starts ≡ starts_of T gates k)
