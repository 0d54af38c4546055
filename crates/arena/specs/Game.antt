-- A pursuit game on numbered places: who moves where, and where the runner is caught.
use Rattle.std.specs.Prelude.{◌≡◌, ℕ, ◌<◌, Bool, List, length, nat_lt, slice_index}
use Rattle.arena.specs.declared.player.Player.{Player}

-- the rules of a game: the player who moves at a place, the capture places, and the places that a move leads to, in their order
pub record Rules : Type 0 where
  pub owner : ℕ → Player
  pub capture : ℕ → Bool
  pub moves : ℕ → List ℕ

-- the rules on the places below a size
pub record Game : Type 0 where
  pub size : ℕ
  pub rules : Rules

-- the places of a finite game
abbrev pub places : Game → ℕ → Bool
places g p = nat_lt p g.size

-- how many moves a place has
abbrev pub degree : Rules → ℕ → ℕ
degree R p = length (R.moves p)

-- the place that the move at a position leads to
abbrev pub move : Rules → ℕ → ℕ → ℕ
move R p i = slice_index (R.moves p) i

-- q is reached by a move of p
abbrev pub Step : Rules → ℕ → ℕ → Type 0
Step R p q = (i : ℕ) × (i < degree R p) × (q ≡ move R p i)

-- the runner is caught at p: p is of level 0, and a play stops there
abbrev pub caught : Rules → ℕ → Bool
caught R p = R.capture p
