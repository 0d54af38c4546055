-- What an answer tells of the game.
use Rattle.std.proofs.Common.{◌≡◌, ℕ, ◌<◌, Some, unwrap_or, arith}
use Rattle.std.proofs.lemmas.Bool.Decides.{nat_tests}
use Rattle.arena.specs.declared.player.Player.{Player}
use Rattle.arena.specs.Game.{Game, degree, move}
use Rattle.arena.specs.Questions.{owner_at, count_at, target_at}

-- a move that there is
pub target_some : (g : Game) (p j t : ℕ) → Some t ≡ target_at g p j → (j < degree g.rules p) × (t ≡ move g.rules p j)
target_some g p j t e = (grind (arith, nat_tests), grind (arith, nat_tests))

-- on the board, what stands for no answer does not matter
pub count_known : (g : Game) (p d : ℕ) → p < g.size → unwrap_or (count_at g p) d ≡ degree g.rules p
count_known g p d lt = grind (arith, nat_tests)

pub owner_known : (g : Game) (p : ℕ) (d : Player) → p < g.size → unwrap_or (owner_at g p) d ≡ g.rules.owner p
owner_known g p d lt = grind (arith, nat_tests)
