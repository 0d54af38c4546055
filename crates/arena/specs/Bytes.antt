-- Rows of bytes, each at most a limit, and the first byte that is above it.
use Rattle.std.specs.Prelude.{ℕ, ◌<◌, ◌≤◌, List, length, slice_index}

-- each byte is at most the limit
abbrev pub AllUpTo : ℕ → List ℕ → Type 0
AllUpTo most bytes = (k : ℕ) → k < length bytes → slice_index bytes k ≤ most

-- the place p is the first whose byte is above the limit
abbrev pub FirstAbove : ℕ → List ℕ → ℕ → Type 0
FirstAbove most bytes p = (p < length bytes) × (most < slice_index bytes p) × ((k : ℕ) → k < p → slice_index bytes k ≤ most)
