-- The clock of a board: the least common multiple of its patterns' lengths.
use Rattle.std.specs.Prelude.{◌≡◌, ℕ, ◌%◌, ◌<◌, Bool, true, ◌&&◌, List, [], ◌∷◌, ◌==◌}
use Rattle.board.specs.declared.gate.Gate.{Gate}

-- l is the least common multiple of a and b: both divide it, and it divides whatever both divide
pub record LeastCommon (a b l : ℕ) : Type 0 where
  pub positive : 0 < l
  pub first : l % a ≡ 0
  pub second : l % b ≡ 0
  pub least : (m : ℕ) → m % a ≡ 0 → m % b ≡ 0 → m % l ≡ 0

-- whether the length of every pattern divides m
abbrev pub divided : ℕ → List Gate → Bool
divided m [] = true
divided m (g ∷ gs) = m % g.pattern.steps == 0 && divided m gs

-- T is the least common multiple of the patterns' lengths: they all divide it, and it divides whatever they all divide
abbrev pub Period : List Gate → ℕ → Type 0
Period gates T = (0 < T) × (divided T gates ≡ true) × ((m : ℕ) → divided m gates ≡ true → m % T ≡ 0)
