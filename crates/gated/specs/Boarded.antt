-- What an arena of a gated board has.
use Rattle.board.specs.declared.board.Board.{Board}
use Rattle.gated.specs.declared.gated.Gated.{Gated}

-- its board
abbrev pub board_of : Gated → Board
board_of a = a.board
