-- Lines: what their marks and fields give.
use Rattle.std.proofs.Common.{◌≡◌, ℕ, ◌+◌, ◌-◌, List, [], ◌∷◌, ◌++◌, length, take, IfOk, MatchResult, Ok, Err, Result, sym, refl, ap, ◌∙◌, subst, append_assoc, arith, length-append, take-append-drop, length-take-le}
use Rattle.std.proofs.Math.Seq.{take-append_seam}
use Rattle.std.proofs.lemmas.Result.{MatchResult-weaker}
use Rattle.std.specs.List.{AllByRecursion}
use Rattle.lines.specs.declared.line.Line.{Line}
use Rattle.lines.specs.declared.line.Line.TheVariants.{Board, Gate, Trap, End}
use Rattle.lines.specs.declared.line.Mark.{Mark}
use Rattle.lines.specs.declared.line.Read.{Read}
use Rattle.lines.specs.declared.part.Part.{Part}
use Rattle.lines.specs.declared.refusal.NoLine.{NoLine}
use Rattle.lines.specs.declared.refusal.Refusal.{Refusal}
use Rattle.lines.specs.declared.rest.Found.{Found}
use Rattle.lines.specs.declared.rest.Rest.{Rest}
use Rattle.lines.specs.declared.rest.Taken.{Taken}
use Rattle.lines.proofs.Refusing.{refused_took}
use Rattle.lines.specs.Grammar.{Kind, Forms, spaced, first, second, kinds, Marked}
use Rattle.lines.specs.Lines.{mark_of, texts, line_bytes, entry_of, fields, Formed, Laid, LineAt, Answers, start, ahead as left, PartOf}
use Rattle.lines.specs.Reading.{RestOf, Took, shown, ReadsRest, StopsAt, Completes, ReadsAfter}

-- one more field ahead
pub reads_after : (k : Kind) (ks : List Kind) (s : Rest) (t : Taken) (fs : List Part) (next : ℕ) → Took k s t → ReadsRest t.rest ks fs next → ReadsRest s (k ∷ ks) (t.field ∷ fs) next
reads_after k ks s t fs next h r =
    let bytes = t.field.bytes.now in
    let from : t.rest.at ≡ s.at + 1 + length bytes = omega (arith, h.goes_on, h.offset) in
    record {
      after = r.after;
      parts = h.parts ∙ ap (λ x. 32 ∷ (bytes ++ x)) r.parts ∙ ap (λ x. 32 ∷ x) (sym (append_assoc bytes (spaced (shown fs)) r.after));
      formed = (h.good, r.formed);
      laid = (h.offset, subst (λ a. Laid a fs) from r.laid);
      ends = omega (arith, r.ends, length-append bytes (spaced (shown fs)));
    }

-- one more field ahead of what completes a line
pub ahead : (k : Kind) (ks : List Kind) (s : Rest) (t : Taken) (fs : List Part) (x : Line) (r : Result Found NoLine) → Took k s t → Completes x t.rest ks fs r → Completes x s (k ∷ ks) (t.field ∷ fs) r
ahead k ks s t fs x r h c =
    MatchResult-weaker r c (λ found p. (p.0, reads_after k ks s t fs found.next h p.1)) (λ why q. refused_took k ks s t why h q)

-- what completes a line of the mark is what follows the mark
pub completed : (m : Mark) (s : Rest) (x : Line) (r : Result Found NoLine) → mark_of (entry_of x) ≡ m → Completes x s (kinds m) (fields x) r → MatchResult r (λ found. ReadsAfter m s found) (λ why. StopsAt (RestOf (kinds m)) s why)
completed m s x r marked c =
    MatchResult-weaker r c (λ found p. record {
      marked = ap (λ y. mark_of (entry_of y)) p.0 ∙ marked;
      rest = subst (λ y. ReadsRest s (kinds m) (fields y) found.next) (sym p.0) p.1;
    }) (λ why q. q)

shown_is : (x : Line) → shown (fields x) ≡ texts (entry_of x)
shown_is (Board n) = refl
shown_is (Gate u v p) = refl
shown_is (Trap v) = refl
shown_is End = refl

-- what is found after a mark is a line with it
module _ (m : Mark) (at : ℕ) (l : List ℕ) (after : Rest) (r : Found) (marked : Marked m l after.bytes.now) (here : after.at ≡ at + 2) (h : ReadsAfter m after r) where
  found_whole : l ≡ line_bytes (entry_of r.line) ++ h.rest.after
  found_whole =
      let e = entry_of r.line in
      let front : l ≡ first (mark_of e) ∷ second (mark_of e) ∷ after.bytes.now = subst (λ x. l ≡ first x ∷ second x ∷ after.bytes.now) (sym h.marked) marked.parts in
      front ∙ ap (λ x. first (mark_of e) ∷ second (mark_of e) ∷ x) (h.rest.parts ∙ ap (λ fs. spaced fs ++ h.rest.after) (shown_is r.line))

  found_next : r.next ≡ at + length (line_bytes (entry_of r.line))
  found_next = omega (arith, here, h.rest.ends, ap (λ fs. length (spaced fs)) (shown_is r.line))

  pub found_line : (x : Read) → x.line ≡ r.line → x.next ≡ r.next → x.text.bytes.now ≡ take (r.next - at) l → x.text.offset ≡ at → LineAt at l x
  found_line x line next front offset =
      let bytes = line_bytes (entry_of x.line) in
      let entry : entry_of x.line ≡ entry_of r.line = ap entry_of line in
      let parts : l ≡ bytes ++ h.rest.after = found_whole ∙ ap (λ e. line_bytes e ++ h.rest.after) (sym entry) in
      let ends : r.next ≡ at + length bytes = found_next ∙ ap (λ e. at + length (line_bytes e)) (sym entry) in
      let size : r.next - at ≡ length bytes = omega arith in
      record {
        after = h.rest.after;
        parts = parts;
        formed = subst Formed (sym entry) (subst (λ k. Forms (kinds k) (texts (entry_of r.line))) (sym h.marked) (subst (Forms (kinds m)) (shown_is r.line) h.rest.formed));
        laid = subst (λ k. Laid (at + 2) (fields k)) (sym line) (subst (λ a. Laid a (fields r.line)) here h.rest.laid);
        text = front ∙ ap (λ n. take n l) size ∙ ap (take (length bytes)) parts ∙ take-append_seam bytes h.rest.after;
        offset = offset;
        next = next ∙ ends;
      }

-- the fields of a line are parts of the sheet
fields_parts : (fs : List Part) (sheet before after : List ℕ) (at : ℕ) → sheet ≡ before ++ (spaced (shown fs) ++ after) → at ≡ length before → Laid at fs → AllByRecursion (PartOf sheet) fs
fields_parts [] sheet before after at e here h = tt
fields_parts (f ∷ fs) sheet before after at e here h =
    let bytes = f.bytes.now in
    let rest = spaced (shown fs) in
    let field : before ++ (32 ∷ ((bytes ++ rest) ++ after)) ≡ (before ++ (32 ∷ [])) ++ (bytes ++ (rest ++ after)) = simp append_assoc in
    let next : before ++ (32 ∷ ((bytes ++ rest) ++ after)) ≡ (before ++ (32 ∷ bytes)) ++ (rest ++ after) = simp append_assoc in (
      record { before = before ++ (32 ∷ []); after = rest ++ after; whole = e ∙ field; here = omega (arith, h.0, length-append before (32 ∷ [])) },
      fields_parts fs sheet (before ++ (32 ∷ bytes)) after (at + 1 + length bytes) (e ∙ next) (omega (arith, length-append before (32 ∷ bytes))) h.1,
    )

-- and so is its whole text
pub answer_parts : (sheet : List ℕ) (at : ℕ) (r : Result Read Refusal) → Answers (start sheet at) (left sheet at) r → IfOk r (λ x. AllByRecursion (PartOf sheet) (x.text ∷ fields x.line))
answer_parts sheet at (Err why) h = tt
answer_parts sheet at (Ok x) h =
    let e = entry_of x.line in
    let before = take (start sheet at) sheet in
    let mark = first (mark_of e) ∷ second (mark_of e) ∷ [] in
    let long : start sheet at ≡ length before = sym (length-take-le (start sheet at) sheet (omega arith)) in
    let whole : sheet ≡ before ++ (line_bytes e ++ h.after) = sym (take-append-drop (start sheet at) sheet) ∙ ap (λ l. before ++ l) h.parts in
    let moved : before ++ (line_bytes e ++ h.after) ≡ (before ++ mark) ++ (spaced (texts e) ++ h.after) = simp append_assoc in
    let shows : sheet ≡ (before ++ mark) ++ (spaced (shown (fields x.line)) ++ h.after) = whole ∙ moved ∙ ap (λ fs. (before ++ mark) ++ (spaced fs ++ h.after)) (sym (shown_is x.line)) in (
      record { before = before; after = h.after; whole = whole ∙ ap (λ b. before ++ (b ++ h.after)) (sym h.text); here = h.offset ∙ long },
      fields_parts (fields x.line) sheet (before ++ mark) h.after (start sheet at + 2) shows (omega (arith, length-append before mark)) h.laid,
    )
