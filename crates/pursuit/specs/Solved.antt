-- All that is claimed of the finished table of a gated board with traps.
use Rattle.std.specs.Prelude.{ℕ, true, List}
use Rattle.arena.specs.Claims.{Claims}
use Rattle.arena.specs.Game.{Game, Rules}
use Rattle.board.specs.declared.board.Board.{Board}
use Rattle.board.specs.Boards.{spots_of, period_of}
use Rattle.gated.specs.Games.{game_of}
use Rattle.gated.specs.Traps.{trap_bytes}
use Rattle.endless.specs.Endless.{endless_rules, fold}
use Rattle.endless.specs.Trapped.{on_trap}
use Rattle.rounds.specs.Words.{marks_of, moves_of}
use Rattle.solver.specs.Whole.{Whole}
use Rattle.trap.specs.Traps.{caught_too, with_traps}

-- the game of a board with traps on spots: a place is a capture place too where the runner stands on a trap
abbrev pub trapped_game : Board → List ℕ → Game
trapped_game b traps = with_traps (game_of b) (trap_bytes (spots_of b) (period_of b) traps)

-- the rules of the same on a clock without end
abbrev pub trapped_endless : Board → List ℕ → Rules
trapped_endless b traps = caught_too (endless_rules b) (on_trap b traps)

-- a table V of the game g, which is a board's with more capture places, is so in the endless game with the rules R: from every place of it,
-- each with the mark and the move word of its folded place, the marks and both plans are so, against strategies that see the endless play
abbrev pub TrueEndless : Board → Rules → Game → List ℕ → Type 0
TrueEndless b R g V = Claims R (λ _. true) (λ x. marks_of V (fold b x)) (λ x. moves_of g V (fold b x))

-- the table V makes the whole claim of the board's game; and on a clock without end, from every place of the endless game,
-- each with the mark and the move word of its folded place, the marks and both plans are so, against strategies that see the endless play
pub record BoardSolved (b : Board) (traps : List ℕ) (rounds looks : ℕ) (V : List ℕ) : Type 0 where
  pub folded : Whole (trapped_game b traps) rounds looks V
  pub endless : TrueEndless b (trapped_endless b traps) (trapped_game b traps) V
