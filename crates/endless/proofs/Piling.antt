-- A pile of traps changes neither size, owners nor moves, so the endless game folds onto the board's under it.
use Rattle.std.proofs.Common.{◌≡◌, ℕ, List, [], ◌∷◌, sym, refl, ◌∙◌}
use Rattle.arena.specs.Folds.{Folds}
use Rattle.arena.specs.Game.{Game}
use Rattle.board.specs.declared.board.Board.{Board}
use Rattle.gated.specs.Games.{game_of}
use Rattle.trap.specs.Traps.{piled}
use Rattle.endless.specs.Endless.{fold}
use Rattle.endless.specs.Piled.{piled_board, endless_piled}
use Rattle.endless.proofs.Folding.{folded}

pub size_same : (g : Game) (pile : List (List ℕ)) → (piled g pile).size ≡ g.size
size_same g [] = refl
size_same g (bytes ∷ below) = size_same g below

owner_same : (g : Game) (pile : List (List ℕ)) (p : ℕ) → (piled g pile).rules.owner p ≡ g.rules.owner p
owner_same g [] p = refl
owner_same g (bytes ∷ below) p = owner_same g below p

moves_same : (g : Game) (pile : List (List ℕ)) (p : ℕ) → (piled g pile).rules.moves p ≡ g.rules.moves p
moves_same g [] p = refl
moves_same g (bytes ∷ below) p = moves_same g below p

pub piles_fold : (b : Board) (pile : List (List ℕ)) → Folds (endless_piled b pile) (piled_board b pile).rules (fold b)
piles_fold b pile =
    let f = (folded b).folds in
    record {
      owners = λ x. f.owners x ∙ sym (owner_same (game_of b) pile (fold b x));
      captures = λ x. refl;
      lists = λ x. moves_same (game_of b) pile (fold b x) ∙ f.lists x;
    }
