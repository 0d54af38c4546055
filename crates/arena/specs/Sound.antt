-- When a game is sound.
use Rattle.std.specs.Prelude.{◌≡◌, ℕ, ◌<◌, ◌≤◌, true, Some, None, Option}
use Rattle.arena.specs.Game.{Game, degree, move}

-- the number of places is from 1 to 1048576
abbrev pub Sized : Game → Type 0
Sized g = (0 < g.size) × (g.size ≤ 1048576)

-- the place p has at most 65535 moves, each to a place, and none only if it is a capture place
abbrev pub SoundAt : Game → ℕ → Type 0
SoundAt g p =
    (degree g.rules p ≤ 65535) × ((j : ℕ) → j < degree g.rules p → move g.rules p j < g.size) × (degree g.rules p ≡ 0 → g.rules.capture p ≡ true)

-- each place is sound
abbrev pub PlacesSound : Game → Type 0
PlacesSound g = (p : ℕ) → p < g.size → SoundAt g p

-- the game is sound
abbrev pub Sound : Game → Type 0
Sound g = Sized g × PlacesSound g

-- the answer is the first place that is not sound, and nothing if each place is
abbrev pub FirstUnsound : Game → Option ℕ → Type 0
FirstUnsound g None = PlacesSound g
FirstUnsound g (Some p) = (p < g.size) × (SoundAt g p → ⊥) × ((k : ℕ) → k < p → SoundAt g k)
