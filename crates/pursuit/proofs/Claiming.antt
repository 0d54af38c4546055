-- The whole claim, from what runs leave and what the checker answers.
use Rattle.std.proofs.Common.{◌≡◌, ℕ, ◌<◌, true, false, List, length, is_ok, Ok, Err, Result, sym, refl, subst, lt→ltb}
use Rattle.arena.specs.Game.{Game}
use Rattle.arena.specs.Tables.{TrueTable, TrueFolded}
use Rattle.arena.specs.Unfit.{Fits}
use Rattle.board.specs.declared.board.Board.{Board}
use Rattle.checker.specs.Verdicts.{Accepted, Verdict}
use Rattle.checker.specs.declared.refusal.CheckRefusal.{CheckRefusal}
use Rattle.checker.specs.declared.refusal.CheckRefusal.TheVariants.{Misfit, Fault}
use Rattle.endless.specs.Endless.{fold}
use Rattle.endless.specs.Piled.{piled_board, endless_piled}
use Rattle.endless.proofs.Folding.{folded}
use Rattle.endless.proofs.Piling.{piles_fold, size_same}
use Rattle.gated.specs.Games.{game_of}
use Rattle.solver.proofs.Reaching.{reached_whole}
use Rattle.arena.proofs.Fitting.{misfit}
use Rattle.solver.specs.Whole.{Whole}
use Rattle.theory.proofs.Plays.{not_clash}
use Rattle.pursuit.specs.Claim.{FinishedTable, WholeClaim}
use Rattle.pursuit.specs.Solved.{TrueEndless}

-- what is so in every game that folds onto the board's under its pile is so on the endless clock
endless_so : (b : Board) (pile : List (List ℕ)) (V : List ℕ) → TrueFolded (piled_board b pile) V → TrueEndless b (endless_piled b pile) (piled_board b pile) V
endless_so b pile V so x _ =
    let below : fold b x < (piled_board b pile).size = subst (λ (n : ℕ). fold b x < n) (sym (size_same (game_of b) pile)) ((folded b).below x) in
    so _ (fold b) (piles_fold b pile) x (lt→ltb (fold b x) _ below)

whole_of : (g : Game) (V : List ℕ) (f : FinishedTable g V) → Whole g f.run.rounds f.run.looks V
whole_of g V f = reached_whole g f.run V f.reached f.may_finish.1 f.left

-- an accepted table is so, and one that is refused is not
accepted_of : (g : Game) (V : List ℕ) (answer : Result (Unit {0}) CheckRefusal) → Verdict g V answer → is_ok answer ≡ true → Accepted g V
accepted_of g V (Ok u) verdict e = verdict
accepted_of g V (Err why) verdict e = absurd (not_clash false e refl)

so_accepted : (g : Game) (V : List ℕ) (answer : Result (Unit {0}) CheckRefusal) → Fits g (length V) → Verdict g V answer → TrueTable g V → is_ok answer ≡ true
so_accepted g V (Ok u) fits verdict so = refl
so_accepted g V (Err (Misfit why)) fits verdict so = absurd (misfit g (length V) why verdict fits)
so_accepted g V (Err (Fault p)) fits verdict so = absurd (verdict.untrue so)

pub whole_claim : WholeClaim
whole_claim = record {
  finished = λ g V f. (whole_of g V f).claims;
  finished_board = λ b pile V f. let w = whole_of (piled_board b pile) V f in (w.claims, endless_so b pile V w.folded);
  checked = λ g V answer fits verdict. (λ e. (accepted_of g V answer verdict e).so, so_accepted g V answer fits verdict);
  checked_board = λ b pile V answer fits verdict. (
    (λ e. let a = accepted_of (piled_board b pile) V answer verdict e in (a.so, endless_so b pile V a.folded)),
    (λ so. so_accepted (piled_board b pile) V answer fits verdict so.0),
  );
}
