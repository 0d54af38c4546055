-- The table rules as the checker asks them of one place.
use Rattle.std.specs.Prelude.{ℕ, ◌-◌, ◌<◌, ◌≤◌, cond, List, nat_lt}
use Rattle.arena.specs.declared.player.Player.{Player}
use Rattle.arena.specs.declared.player.Player.TheVariants.{Pursuer, Runner}
use Rattle.arena.specs.Game.{Game, degree, move}
use Rattle.arena.specs.TableRules.{RulesAt}
use Rattle.arena.specs.Tables.{marks_of, moves_of}
use Rattle.marks.specs.Marks.{never}

-- the words of the place p obey the table rules, and its mark is never or below the number of places
pub record ObeysAt (g : Game) (V : List ℕ) (p : ℕ) : Type 0 where
  pub rules : RulesAt g.rules (marks_of V) (moves_of g V) p
  pub small : marks_of V p < never → marks_of V p < g.size

-- the mark that a best move leads to: one less than a count, and never from never
abbrev pub next_mark : ℕ → ℕ
next_mark mark = cond (nat_lt mark never) (mark - 1) never

-- a mark that is no better for a player than the one wanted
abbrev pub NoBetter : Player → ℕ → ℕ → Type 0
NoBetter Pursuer wanted mark = wanted ≤ mark
NoBetter Runner wanted mark = mark ≤ wanted

-- no move of p leads to a better mark for its player
abbrev pub NoneBetter : Game → List ℕ → ℕ → Player → ℕ → Type 0
NoneBetter g V p player wanted = (i : ℕ) → i < degree g.rules p → NoBetter player wanted (marks_of V (move g.rules p i))
