-- The game of a board.
use Rattle.arena.specs.Game.{Game}
use Rattle.board.specs.declared.board.Board.{Board}
use Rattle.board.specs.Boards.{spots_of, period_of, gates_of}
use Rattle.gated.specs.Places.{board_game}

-- the game of a board
abbrev pub game_of : Board → Game
game_of b = board_game (spots_of b) (period_of b) (gates_of b)
