-- What each question about a finite game is answered: nothing off the board or past the list.
use Rattle.std.specs.Prelude.{ℕ, Bool, cond, Some, None, Option, nat_lt}
use Rattle.arena.specs.declared.player.Player.{Player}
use Rattle.arena.specs.Game.{Game, degree, move}

-- the answer where a test passes, and nothing elsewhere
abbrev pub given_that : {A : Type 0} → Bool → A → Option A
given_that b x = cond b (Some x) None

-- who moves at p
abbrev pub owner_at : Game → ℕ → Option Player
owner_at g p = given_that (nat_lt p g.size) (g.rules.owner p)

-- whether p is a capture place
abbrev pub capture_at : Game → ℕ → Option Bool
capture_at g p = given_that (nat_lt p g.size) (g.rules.capture p)

-- how many moves p has
abbrev pub count_at : Game → ℕ → Option ℕ
count_at g p = given_that (nat_lt p g.size) (degree g.rules p)

-- where the move at the position j of p leads
abbrev pub target_at : Game → ℕ → ℕ → Option ℕ
target_at g p j = cond (nat_lt p g.size) (given_that (nat_lt j (degree g.rules p)) (move g.rules p j)) None
