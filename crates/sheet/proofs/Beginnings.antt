-- Beginnings of a sheet: how one line more goes on with them.
use Rattle.std.proofs.Common.{◌≡◌, ℕ, ◌+◌, ◌≤◌, List, [], ◌∷◌, ◌++◌, length, drop, Some, None, Ok, Err, Option, Result, sym, refl, ap, ◌∙◌, subst, inl, inr, append_assoc, append-nil, arith, length-append}
use Rattle.std.proofs.Math.Seq.{drop-append_seam}
use Rattle.lines.specs.declared.line.Line.{Line}
use Rattle.lines.specs.declared.line.Line.TheVariants.{Board, Gate, Trap, End}
use Rattle.lines.specs.declared.line.Read.{Read}
use Rattle.lines.specs.declared.part.Part.{Part}
use Rattle.lines.specs.declared.refusal.Told.{Told}
use Rattle.lines.specs.Grammar.{Number, FieldOf}
use Rattle.lines.specs.Lines.{Entry, board, end, Formed, line_bytes, entry_of, fields, Laid, LineAt}
use Rattle.lines.specs.Values.{decimal}
use Rattle.board.specs.declared.draft.refusal.SpotsRefusal.{SpotsRefusal}
use Rattle.board.specs.declared.draft.refusal.SpotsRefusal.TheVariants.{OutOfRange}
use Rattle.board.specs.Gates.{LawfulSpots}
use Rattle.board.specs.SpotsRefused.{Cause}
use Rattle.sheet.proofs.Tables.{any_more}
use Rattle.sheet.specs.declared.refusal.Refusal.{Refusal}
use Rattle.sheet.specs.declared.sheet.Sheet.{Sheet}
use Rattle.sheet.specs.Parts.{Begun, Stopped, TurnedDown, Ended}
use Rattle.sheet.specs.Readings.{Explains, Right}
use Rattle.sheet.specs.Refusals.{board_rule}
use Rattle.sheet.specs.Rules.{Within, breaches, Clean, First, GoesOn, Lawful, Fault, unlawful, BrokenAt}
use Rattle.sheet.specs.Says.{Held, added, after, written}

lawful_push : (s : Option Held) (es : List Entry) (e : Entry) → Lawful s es → GoesOn e → Formed e → Clean (breaches (after s es) e []) → Lawful s (es ++ (e ∷ []))
lawful_push s [] e h on formed clean = (on, formed, clean, tt)
lawful_push s (d ∷ es) e h on formed clean = (h.0, h.1, h.2, lawful_push (added s d) es e h.3 on formed clean)

after_push : (s : Option Held) (es : List Entry) (e : Entry) → after s (es ++ (e ∷ [])) ≡ added (after s es) e
after_push s [] e = refl
after_push s (d ∷ es) e = after_push (added s d) es e

written_push : (es : List Entry) (e : Entry) → written (es ++ (e ∷ [])) ≡ written es ++ line_bytes e
written_push [] e = append-nil (line_bytes e)
written_push (d ∷ es) e = ap (λ x. line_bytes d ++ x) (written_push es e) ∙ sym (append_assoc (line_bytes d) (written es) (line_bytes e))

-- what the text has from the offset on
rest_is : (text : List ℕ) (at : ℕ) (s : Option Held) (b : Begun text at s) → drop at text ≡ b.rest
rest_is text at s b = ap (λ i. drop i text) b.here ∙ ap (drop (length (written b.lines))) b.whole ∙ drop-append_seam (written b.lines) b.rest

pub begun_none : (text : List ℕ) → Begun text 0 None
begun_none text = record { lines = []; rest = text; lawful = tt; whole = refl; here = refl; says = refl }

-- a fault after a beginning
pub broken : (text : List ℕ) (at : ℕ) (s : Option Held) (t : Told) → Begun text at s → Fault s at (drop at text) t → BrokenAt text t
broken text at s t b f = record {
  lines = b.lines;
  rest = b.rest;
  lawful = b.lawful;
  whole = b.whole;
  fault = subst (λ s. Fault s (length (written b.lines)) b.rest t) (sym b.says)
      (subst (λ i. Fault s i b.rest t) b.here
      (subst (λ l. Fault s at l t) (rest_is text at s b) f));
}

-- what a line at the offset is cut from
fronts : (text : List ℕ) (at : ℕ) (s : Option Held) (x : Read) (b : Begun text at s) (h : LineAt at (drop at text) x) → b.rest ≡ line_bytes (entry_of x.line) ++ h.after
fronts text at s x b h = sym (rest_is text at s b) ∙ h.parts

-- one line more
pub begun_more : (text : List ℕ) (at : ℕ) (s s' : Option Held) (x : Read) → Begun text at s → LineAt at (drop at text) x → GoesOn (entry_of x.line) → Clean (breaches s (entry_of x.line) []) → s' ≡ added s (entry_of x.line) → Begun text x.next s'
begun_more text at s s' x b h on clean is =
    let e = entry_of x.line in
    record {
      lines = b.lines ++ (e ∷ []);
      rest = h.after;
      lawful = lawful_push None b.lines e b.lawful on h.formed (subst (λ s. Clean (breaches s e [])) (sym b.says) clean);
      whole = b.whole ∙ ap (λ x. written b.lines ++ x) (fronts text at s x b h) ∙ sym (append_assoc (written b.lines) (line_bytes e) h.after) ∙ ap (λ w. w ++ h.after) (sym (written_push b.lines e));
      here = omega (arith, h.next, b.here, ap length (written_push b.lines e), length-append (written b.lines) (line_bytes e));
      says = after_push None b.lines e ∙ ap (λ s. added s e) b.says ∙ sym is;
    }

-- no line is there
pub stopped : (text : List ℕ) (at : ℕ) (s : Option Held) (o : Option Told) → Begun text at s → Stopped text at o → Explains text o
stopped text at s None b h = absurd h
stopped text at s (Some t) b h = broken text at s t b (h s)

-- a line that breaks a rule
pub breaks : (text : List ℕ) (at : ℕ) (s : Option Held) (x : Read) (t : Told) → Begun text at s → (h : LineAt at (drop at text) x) → First at (breaches s (entry_of x.line) h.after) t → BrokenAt text t
breaks text at s x t b h f = broken text at s t b (unlawful (entry_of x.line) h.after h.formed h.parts f)

-- a line that is not taken
pub turned_down : (text : List ℕ) (at : ℕ) (s : Held) (x : Read) (o : Option Told) → Begun text at (Some s) → LineAt at (drop at text) x → GoesOn (entry_of x.line) → TurnedDown s at (entry_of x.line) o → Explains text o
turned_down text at s x (Some t) b h on f = breaks text at (Some s) x t b h (any_more (λ table. First at table t) (Some s) (entry_of x.line) h.after on f)
turned_down text at s x None b h on f = record {
  lines = b.lines;
  entry = entry_of x.line;
  more = h.after;
  lawful = b.lawful;
  whole = b.whole ∙ ap (λ x. written b.lines ++ x) (fronts text at (Some s) x b h);
  formed = h.formed;
  clean = subst (λ s. Clean (breaches s (entry_of x.line) [])) (sym b.says) f.0;
  grows = f.1;
}

-- how long the text is where a line is read
line_length : (text : List ℕ) (at : ℕ) (s : Option Held) (x : Read) → Begun text at s → (h : LineAt at (drop at text) x) → length text ≡ x.next + length h.after
line_length text at s x b h =
    omega (arith, h.next, b.here, simp length-append at (ap length b.whole), simp length-append at (ap length (fronts text at s x b h)))

nil_of : (xs : List ℕ) → length xs ≤ 0 → xs ≡ []
nil_of [] h = refl
nil_of (x ∷ xs) h = absurd (omega arith)

-- the last line
pub closed : (text : List ℕ) (at : ℕ) (s : Held) (x : Read) (r : Result Sheet Refusal) → Begun text at (Some s) → LineAt at (drop at text) x → entry_of x.line ≡ end → Ended s x.next (length text) r → Right text r
closed text at s x (Ok y) b h last e =
    let none : h.after ≡ [] = nil_of h.after (omega (arith, e.1, line_length text at (Some s) x b h)) in
    let parts : b.rest ≡ line_bytes end = fronts text at (Some s) x b h ∙ ap (λ d. line_bytes d ++ h.after) last ∙ ap (λ m. line_bytes end ++ m) none in
    record {
      lines = b.lines;
      lawful = b.lawful;
      whole = b.whole ∙ ap (λ x. written b.lines ++ x) parts;
      says = b.says ∙ ap (λ s. Some s) (sym e.0);
      within = subst (λ s. Within s) (sym e.0) e.2;
    }
closed text at s x (Err why) b h last e =
    let three : x.next ≡ at + 3 = omega (arith, h.next, ap (λ d. length (line_bytes d)) last) in
    let long = line_length text at (Some s) x b h in
    let fault : (t : Told) → First at (breaches (Some s) end h.after) t → BrokenAt text t = λ t f. breaks text at (Some s) x t b h (subst (λ d. First at (breaches (Some s) d h.after) t) (sym last) f) in
    elim e [
      | inl p ↦ subst (Explains text) (sym p.1) (fault _ (inl (omega (arith, p.0), ap (board_rule 6) three)))
      | inr p ↦ subst (Explains text) (sym p.2) (fault _ (inr (λ some. omega (arith, p.0), inl (p.1, ap (board_rule 10) three))))
    ]

pub goes_on : (x : Line) → (x ≡ End → ⊥) → GoesOn (entry_of x)
goes_on (Board n) h = tt
goes_on (Gate u v p) h = tt
goes_on (Trap v) h = tt
goes_on End h = h refl

misplaced : (x : Line) → ((n : Part) → x ≡ Board n → ⊥) → (more : List ℕ) → First 0 (breaches None (entry_of x) more) (board_rule 6 0)
misplaced (Board n) other more = absurd (other n refl)
misplaced (Gate u v p) other more = inl (tt, refl)
misplaced (Trap v) other more = inl (tt, refl)
misplaced End other more = inl (tt, refl)

-- the first line is no board's
pub not_first : (text : List ℕ) (x : Read) → LineAt 0 text x → ((n : Part) → x.line ≡ Board n → ⊥) → BrokenAt text (board_rule 6 0)
not_first text x h other = breaks text 0 None x (board_rule 6 0) (begun_none text) h (misplaced x.line other h.after)

-- the first line's number is outside its range
pub bad_size : (text : List ℕ) (x : Read) (n : Part) → LineAt 0 text x → x.line ≡ Board n → (FieldOf Number n.bytes.now → LawfulSpots (decimal n.bytes.now) → ⊥) → BrokenAt text (board_rule 7 n.offset)
bad_size text x n h is bad =
    let e : entry_of x.line ≡ board n.bytes.now = ap entry_of is in
    let field : FieldOf Number n.bytes.now = (subst Formed e h.formed).0 in
    let here : n.offset ≡ 3 = (subst (λ l. Laid 2 (fields l)) is h.laid).0 in
    breaks text 0 None x (board_rule 7 n.offset) (begun_none text) h (subst (λ d. First 0 (breaches None d h.after) (board_rule 7 n.offset)) (sym e) (inl (bad field, ap (board_rule 7) here)))

pub size_cause : (n : ℕ) (why : SpotsRefusal) → Cause n why → LawfulSpots n → ⊥
size_cause n OutOfRange h lawful = h lawful

-- the first line is the board's
pub begun_first : (text : List ℕ) (x : Read) (n : Part) (s : Held) → LineAt 0 text x → x.line ≡ Board n → (FieldOf Number n.bytes.now → s.spots ≡ decimal n.bytes.now) → s.gates ≡ [] → s.traps ≡ [] → LawfulSpots s.spots → Begun text x.next (Some s)
begun_first text x n s h is spots gates traps lawful =
    let e : entry_of x.line ≡ board n.bytes.now = ap entry_of is in
    let same : s.spots ≡ decimal n.bytes.now = spots (subst Formed e h.formed).0 in
    let says : Some s ≡ added None (board n.bytes.now) = λ i. Some (record { spots = same i; gates = gates i; traps = traps i }) in
    begun_more text 0 None (Some s) x (begun_none text) h (subst GoesOn (sym e) tt) (subst (λ d. Clean (breaches None d [])) (sym e) (λ bad. bad (subst LawfulSpots same lawful), tt)) (says ∙ ap (added None) (sym e))
