-- A report by what each call told.
use Rattle.std.proofs.Common.{rules, IsErrAnd, ◌≡◌, ℕ, ◌*◌, ◌/◌, ◌<◌, ◌≤◌, ◌⊎◌, List, length, take, Ok, Err, vec_items, Result, sym, subst, inl, inr, arith, MatchResult}
use Rattle.board.specs.declared.board.Board.{Board}
use Rattle.marks.specs.Tallies.{Tallied}
use Rattle.marks.specs.Unique.{TheOne}
use Rattle.marks.specs.declared.tally.Tally.{Tally}
use Rattle.pursuit.specs.Checked.{BoardTrue}
use Rattle.pursuit.specs.Solved.{BoardSolved}
use Rattle.sheet.specs.Readings.{Reads}
use Rattle.sheet.specs.declared.refusal.Refusal.{Refusal}
use Rattle.sheet.specs.declared.refusal.Refusal.TheVariants as refusal
use Rattle.sheet.specs.declared.sheet.Sheet.{Sheet}
use Rattle.report.specs.declared.failure.Failure.{Failure}
use Rattle.report.specs.declared.failure.Failure.TheVariants.{TooLarge, NoMemory}
use Rattle.report.specs.declared.report.Report.{Report}
use Rattle.report.proofs.Wanting.{trapped_fits}
use Rattle.report.specs.Failures.{failure_of}
use Rattle.report.specs.Reports.{places_of, ToldOf, Reports, Fails}

-- the first half of the words is the row of marks
pub tallied_of : (n : ℕ) (V : List ℕ) (t : Tally) → length V ≡ 2 * n → TheOne (Tallied (take (length V / 2) V)) t → TheOne (Tallied (take n V)) t
tallied_of n V t long one =
    let half : length V / 2 ≡ n = omega arith in
    subst (λ (k : ℕ). TheOne (Tallied (take k V)) t) half one

pub solved_of : (b : Board) (traps : List ℕ) (r r' l l' : ℕ) (V : List ℕ) → r' ≡ r → l' ≡ l → BoardSolved b traps r l V → BoardSolved b traps r' l' V
solved_of b traps r r' l l' V er el s =
    subst (λ (n : ℕ). BoardSolved b traps n l' V) (sym er) (subst (λ (n : ℕ). BoardSolved b traps r n V) (sym el) s)

-- the words of a solved board are so
pub so_of : (b : Board) (traps V : List ℕ) (r l : ℕ) → length V ≡ 2 * places_of b → BoardSolved b traps r l V → BoardTrue b traps V
so_of b traps V r l long told =
    record {
      fits = trapped_fits b traps (length V) long;
      so = told.folded.claims;
      endless = told.endless;
    }

-- what is told of a sheet that was read, by what is told of its board
pub told_of_sheet : (text : List ℕ) (s : Sheet) (a : Result Report Failure) → length text ≤ 4096 → Reads text (Ok s)
    → MatchResult a (λ r. (places_of s.board ≤ 4096) × ToldOf s.board (vec_items s.traps) r) (λ why. ((why ≡ TooLarge) × (4096 < places_of s.board)) ⊎ (why ≡ NoMemory))
    → MatchResult a (Reports text) (Fails text)
told_of_sheet text s (Ok r) short reads (small, told) = record { short = short; sheet = s; reads = reads; small = small; tells = told }
told_of_sheet text s (Err why) short reads (inl (e, large)) = subst (Fails text) (sym e) (inr (short, (s, reads, large)))
told_of_sheet text s (Err why) short reads (inr e) = subst (Fails text) (sym e) short

-- what is failed with, of a sheet that is refused
fails_of : (text : List ℕ) (why : Refusal) → length text ≤ 4096 → Reads text (Err why) → Fails text (failure_of why)
fails_of text refusal.NoMemory short reads = short
fails_of text (refusal.Line line) short reads = search rules
fails_of text (refusal.Misplaced at) short reads = search rules
fails_of text (refusal.OutOfRange at) short reads = search rules
fails_of text (refusal.NeverOpen at) short reads = search rules
fails_of text (refusal.Repeated at) short reads = search rules
fails_of text (refusal.TooManyGates at) short reads = search rules
fails_of text (refusal.TooLarge at) short reads = search rules

-- what is told of a sheet that is refused
pub told_of_refused : (text : List ℕ) (why : Refusal) (a : Result Report Failure) → length text ≤ 4096 → Reads text (Err why)
    → IsErrAnd a (λ f. f ≡ failure_of why) → MatchResult a (Reports text) (Fails text)
told_of_refused text why (Ok r) short reads e = absurd e
told_of_refused text why (Err f) short reads e = subst (Fails text) (sym e) (fails_of text why short reads)
