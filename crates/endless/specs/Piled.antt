-- Traps piled on a board, in the game with an endless clock.
use Rattle.std.specs.Prelude.{ℕ, List}
use Rattle.arena.specs.Game.{Game, Rules}
use Rattle.board.specs.declared.board.Board.{Board}
use Rattle.gated.specs.Games.{game_of}
use Rattle.endless.specs.Endless.{endless_rules, fold}
use Rattle.trap.specs.Traps.{piled}

-- the game of a board under a pile of traps
abbrev pub piled_board : Board → List (List ℕ) → Game
piled_board b pile = piled (game_of b) pile

-- its rules on the endless clock: a place is a capture place where its folded place is one
abbrev pub endless_piled : Board → List (List ℕ) → Rules
endless_piled b pile =
    record { owner = (endless_rules b).owner; capture = λ x. (piled_board b pile).rules.capture (fold b x); moves = (endless_rules b).moves }
