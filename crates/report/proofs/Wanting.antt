-- A board with traps on its spots and a table of its size is refused only for want of memory.
use Rattle.std.proofs.Common.{◌≡◌, ℕ, ◌*◌, ◌<◌, Bool, true, ◌&&◌, ◌||◌, List, [], ◌∷◌, Err, is_ok, sym, refl, ap, ◌∙◌, lt-ltb}
use Rattle.std.specs.List.{AllByRecursion}
use Rattle.arena.specs.Unfit.{Cause, Fits}
use Rattle.arena.specs.declared.unfit.Unfit.{Unfit}
use Rattle.board.specs.declared.board.Board.{Board}
use Rattle.board.specs.Boards.{spots_of, period_of}
use Rattle.gated.specs.declared.refusal.TrapRefusal.TheVariants.{OffBoard, NoMemory}
use Rattle.gated.specs.Traps.{all_below, trap_bytes}
use Rattle.gated.proofs.Sounds.{sound}
use Rattle.checker.specs.Verdicts.{Cause as TableCause}
use Rattle.checker.specs.declared.refusal.CheckRefusal.{CheckRefusal}
use Rattle.pursuit.specs.Checked.{BoardTrue}
use Rattle.pursuit.specs.Refused.{CauseOf}
use Rattle.pursuit.proofs.Claiming.{whole_claim}
use Rattle.pursuit.specs.Solved.{trapped_game}
use Rattle.pursuit.specs.declared.refusal.BoardRefusal.{BoardRefusal}
use Rattle.pursuit.specs.declared.refusal.BoardRefusal.TheVariants.{Traps, Table}
use Rattle.arena.proofs.Fitting.{misfit}
use Rattle.theory.proofs.Plays.{not_clash}
use Rattle.trap.specs.Traps.{is_trapped}
use Rattle.report.specs.Reports.{places_of}

-- traps make no place unsound
pub trapped_fits : (b : Board) (traps : List ℕ) (words : ℕ) → words ≡ 2 * places_of b → Fits (trapped_game b traps) words
trapped_fits b traps words e =
    let s = sound b in
    record {
      sized = s.0;
      two_each = e;
      sound = λ p lt. let at = s.1 p lt in (at.0, at.1, λ z. ap (λ (c : Bool). c || is_trapped (trap_bytes (spots_of b) (period_of b) traps) p) (at.2 z));
    }

-- a table that is so is not refused
pub unjudged : (b : Board) (traps V : List ℕ) → BoardTrue b traps V → (why : CheckRefusal) → TableCause (trapped_game b traps) V why → ⊥
unjudged b traps V so why cause =
    let accepted : is_ok {T = Unit {0}} (Err why) ≡ true = (whole_claim.checked (trapped_game b traps) V (Err why) so.fits cause).1 so.so in
    not_clash true refl (sym accepted)

-- a table of the board's size fits
pub never_misfit : (b : Board) (traps : List ℕ) (words : ℕ) → words ≡ 2 * places_of b → (why : Unfit) → Cause (trapped_game b traps) words why → ⊥
never_misfit b traps words e why cause = misfit (trapped_game b traps) words why cause (trapped_fits b traps words e)

pub only_memory : {W : Type 0} (b : Board) (traps : List ℕ) (Bad : W → Type 0) → all_below (spots_of b) traps ≡ true → ((why : W) → Bad why → ⊥)
    → (e : BoardRefusal W) → CauseOf b traps Bad e → e ≡ Traps NoMemory
only_memory b traps Bad below none (Traps OffBoard) cause = absurd (not_clash (all_below (spots_of b) traps) below cause)
only_memory b traps Bad below none (Traps NoMemory) cause = refl
only_memory b traps Bad below none (Table why) cause = absurd (none why cause)

-- traps that are each on a spot
pub below_all : (n : ℕ) (traps : List ℕ) → AllByRecursion (λ v. v < n) traps → all_below n traps ≡ true
below_all n [] h = refl
below_all n (t ∷ ts) (here, rest) = ap (λ (x : Bool). x && all_below n ts) (lt-ltb t n here) ∙ below_all n ts rest
