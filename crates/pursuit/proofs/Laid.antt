-- Traps that are laid on a board, and what a solve of it claims.
use Rattle.std.proofs.Common.{◌≡◌, ℕ, ◌≤◌, Bool, true, false, cond, List, length, Ok, Err, Result, MatchResult, IsErrAnd, sym, ap, ◌∙◌, subst, arith, lt→ltb}
use lib.ListN.{length-map}
use Rattle.std.proofs.lemmas.List.FromFn.{get_or-map-range_with_len, length-range_with_len}
use Rattle.arena.specs.Game.{Game}
use Rattle.arena.specs.Tables.{TrueFolded}
use Rattle.arena.specs.Unfit.{Cause, Fits}
use Rattle.arena.specs.declared.unfit.Unfit.{Unfit}
use Rattle.board.specs.declared.board.Board.{Board}
use Rattle.board.specs.Boards.{spots_of, period_of}
use Rattle.board.specs.Gates.{places}
use Rattle.checker.specs.Verdicts.{Accepted, Cause as TableCause, Verdict}
use Rattle.checker.specs.declared.refusal.CheckRefusal.{CheckRefusal}
use Rattle.gated.specs.Games.{game_of}
use Rattle.gated.specs.Places.{runner_of}
use Rattle.gated.specs.Traps.{is_trap, spot_byte, trap_bytes}
use Rattle.endless.specs.Endless.{fold}
use Rattle.endless.proofs.Folding.{folded}
use Rattle.endless.proofs.Trapping.{bytes_tell, traps_fold}
use Rattle.endless.specs.Trapped.{by_bytes}
use Rattle.solver.specs.Shown.{shown}
use Rattle.solver.specs.Whole.{Whole}
use Rattle.solver.specs.declared.finished.Finished.{Finished}
use Rattle.trap.specs.Traps.{Traps, with_traps}
use Rattle.pursuit.specs.Checked.{BoardTrue}
use Rattle.pursuit.specs.Refused.{CauseOf}
use Rattle.pursuit.specs.declared.refusal.BoardRefusal.{BoardRefusal}
use Rattle.pursuit.specs.declared.refusal.BoardRefusal.TheVariants.{Table}
use Rattle.pursuit.specs.Solved.{BoardSolved, TrueEndless, trapped_endless, trapped_game}

byte_low : (b : Bool) → cond b 1 0 ≤ 1
byte_low true = omega arith
byte_low false = omega arith

-- the bytes of traps are lawful traps of the board's game
pub bytes_lawful : (b : Board) (traps bytes : List ℕ) → bytes ≡ trap_bytes (spots_of b) (period_of b) traps → Traps (game_of b) bytes
bytes_lawful b traps bytes e =
    let n : ℕ = places (spots_of b) (period_of b) in
    let byte : ℕ → ℕ = λ p. spot_byte traps (runner_of (spots_of b) p) in
    let long : length (trap_bytes (spots_of b) (period_of b) traps) ≡ n = length-map _ byte ∙ length-range_with_len 0 n in
    subst (λ (X : List ℕ). Traps (game_of b) X) (sym e) (
      long,
      λ k l. rw (get_or-map-range_with_len byte 0 n k k 0 (omega arith) (omega arith)) (byte_low (is_trap traps (runner_of (spots_of b) k))),
    )

-- the game under the bytes of traps is the board's with its traps
pub laid_game : (b : Board) (traps X : List ℕ) (g : Game) → g ≡ with_traps (game_of b) X → X ≡ trap_bytes (spots_of b) (period_of b) traps → g ≡ trapped_game b traps
laid_game b traps X g e ex = e ∙ ap (λ (Y : List ℕ). with_traps (game_of b) Y) ex

-- a table that is so in every game that folds onto the board's with its traps is so on the endless clock
pub endless_so : (b : Board) (traps V : List ℕ) → TrueFolded (trapped_game b traps) V → TrueEndless b (trapped_endless b traps) (trapped_game b traps) V
endless_so b traps V so x _ = so _ (fold b) (traps_fold b traps (by_bytes b traps) (bytes_tell b traps)) x (lt→ltb (fold b x) _ ((folded b).below x))

-- what a solve tells of a game, with a table of so many words
abbrev Solves : Game → ℕ → Result Finished Unfit → Type 0
Solves g words r =
    MatchResult r (λ f. Fits g words × (f.accepted ≡ true) × (length (shown f) ≡ words) × Whole g f.made.rounds f.made.looks (shown f)) (Cause g words)

-- what a finished table of so many words tells of a board
abbrev pub SolvesBoard : Board → List ℕ → ℕ → Finished → Type 0
SolvesBoard b traps words f = (f.accepted ≡ true) × (length (shown f) ≡ words) × BoardSolved b traps f.made.rounds f.made.looks (shown f)

-- what a solve tells of the board's game, told of the board
pub board_solved : (b : Board) (traps : List ℕ) (g : Game) (words : ℕ) → g ≡ trapped_game b traps → (r : Result Finished Unfit) → Solves g words r
    → MatchResult r (SolvesBoard b traps words) (Cause (trapped_game b traps) words)
board_solved b traps g words e (Ok f) told =
    let (fits, accepted, long, whole) = subst (λ (x : Game). Solves x words (Ok f)) e told in
    (accepted, long, record { folded = whole; endless = endless_so b traps (shown f) whole.folded })
board_solved b traps g words e (Err why) told = subst (λ (x : Game). Cause x words why) e told

-- what the checker tells of that game, told of the board
pub board_judged : (b : Board) (traps V : List ℕ) (g : Game) → g ≡ trapped_game b traps → (r : Result (Unit {0}) CheckRefusal) → Verdict g V r
    → MatchResult r (λ _. BoardTrue b traps V) (TableCause (trapped_game b traps) V)
board_judged b traps V g e (Ok x) told =
    let a = subst (λ (x : Game). Accepted x V) e told in
    record { fits = a.fits; so = a.so; endless = endless_so b traps V a.folded }
board_judged b traps V g e (Err why) told = subst (λ (x : Game). TableCause x V why) e told

-- what is told of a table, where its refusals are refusals of the board
pub refused : {T W : Type 0} (Good : T → Type 0) (Bad : W → Type 0) (b : Board) (traps : List ℕ) (r : Result T W) (s : Result T (BoardRefusal W))
    → MatchResult r (λ x. s ≡ Ok x) (λ e. IsErrAnd s (λ d. d ≡ Table e)) → MatchResult r Good Bad → MatchResult s Good (CauseOf b traps Bad)
refused Good Bad b traps (Ok x) s e good = rw e good
refused Good Bad b traps (Err why) (Ok x) e bad = absurd e
refused Good Bad b traps (Err why) (Err d) e bad = rw e bad
