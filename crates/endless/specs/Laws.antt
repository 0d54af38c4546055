-- The laws of gated boards: each is on the contract of a function.
use Rattle.std.specs.Prelude.{◌≡◌, ℕ, ◌+◌, ◌%◌, ◌<◌, Bool, ◌↔◌, List}
use Rattle.arena.specs.Game.{Step}
use Rattle.arena.specs.Folds.{Folds}
use Rattle.board.specs.declared.board.Board.{Board}
use Rattle.board.specs.Boards.{spots_of, period_of, gates_of}
use Rattle.board.specs.Gates.{places}
use Rattle.gated.specs.Games.{game_of}
use Rattle.gated.specs.Places.{next}
use Rattle.endless.specs.Published.{PublishedStep}
use Rattle.endless.specs.Endless.{endless_rules, reached, fold}
use Rattle.endless.specs.Piled.{piled_board, endless_piled}
use Rattle.endless.specs.Trapped.{on_trap, TellsTraps, by_bytes}
use Rattle.trap.specs.Traps.{caught_too}

-- the moves of a board's game are exactly the published ones
abbrev pub MovesPublished : Type 0
MovesPublished = (b : Board) (p q : ℕ) → Step (game_of b).rules p q ↔ PublishedStep (spots_of b) (next (period_of b)) (gates_of b) p q

-- so are those of the endless game, where the runner moves the clock on to the next number
abbrev pub EndlessPublished : Type 0
EndlessPublished = (b : Board) (x y : ℕ) → Step (endless_rules b) x y ↔ PublishedStep (spots_of b) (λ t. t + 1) (gates_of b) x y

-- the fold keeps owners, captures and move lists, and leads to places of the board; it is the rest by the number of places, as the clock's step is the rest by its length
pub record Folded (b : Board) : Type 0 where
  pub folds : Folds (endless_rules b) (game_of b).rules (fold b)
  pub below : (x : ℕ) → fold b x < places (spots_of b) (period_of b)
  pub rest : (x : ℕ) → fold b x ≡ x % places (spots_of b) (period_of b)
  pub clock_rest : (t : ℕ) → reached (period_of b) t ≡ t % period_of b

-- the endless game of a board folds onto the board's
abbrev pub EndlessFolds : Type 0
EndlessFolds = (b : Board) → Folded b

-- with traps on spots too, for every test of the board's places that tells them
abbrev pub TrapsFold : Type 0
TrapsFold =
    (b : Board) (traps : List ℕ) (also : ℕ → Bool) → TellsTraps b traps also
    → Folds (caught_too (endless_rules b) (on_trap b traps)) (caught_too (game_of b).rules also) (fold b)

-- under any pile of traps, on whatever places they lie
abbrev pub PilesFold : Type 0
PilesFold = (b : Board) (pile : List (List ℕ)) → Folds (endless_piled b pile) (piled_board b pile).rules (fold b)

-- the bytes of traps tell them
abbrev pub BytesTell : Type 0
BytesTell = (b : Board) (traps : List ℕ) → TellsTraps b traps (by_bytes b traps)
