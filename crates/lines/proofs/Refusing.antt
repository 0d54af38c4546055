-- Refusals: where each part of the line reader stops.
use Rattle.std.proofs.Common.{◌≡◌, ℕ, ◌+◌, ◌<◌, List, [], ◌∷◌, ◌++◌, length, get_or, sym, refl, ap, ◌∙◌, subst, append_assoc, append-nil, arith, length-append}
use Rattle.lines.specs.declared.line.Mark.{Mark}
use Rattle.lines.specs.declared.refusal.NoLine.{NoLine}
use Rattle.lines.specs.declared.rest.Rest.{Rest}
use Rattle.lines.specs.declared.rest.Taken.{Taken}
use Rattle.lines.specs.Grammar.{Kind, FieldOf, Forms, spaced, first, second, kinds, Marked, LineOf, Viable, Stuck, Refused}
use Rattle.lines.specs.Reading.{Longest, Ends, RestOf, Took, StopsAt}
use Rattle.lines.proofs.Fields.{closed, zero_field, cut_once, spaced_ends}

-- one space, a field, and the rest
record FieldThen (k : Kind) (ks : List Kind) (l : List ℕ) : Type 0 where
  text : List ℕ
  after : List ℕ
  parts : l ≡ 32 ∷ (text ++ after)
  good : FieldOf k text
  goes_on : RestOf ks after

field_then : (k : Kind) (ks : List Kind) (l : List ℕ) (fs : List (List ℕ)) → Forms (k ∷ ks) fs → l ≡ spaced fs → FieldThen k ks l
field_then k ks l [] h e = absurd h
field_then k ks l (f ∷ fs) h e = record { text = f; after = spaced fs; parts = e; good = h.0; goes_on = record { texts = fs; formed = h.1; parts = refl } }

parted : (k : Kind) (ks : List Kind) (l : List ℕ) → RestOf (k ∷ ks) l → FieldThen k ks l
parted k ks l h = field_then k ks l h.texts h.formed h.parts

with_field : (k : Kind) (ks : List Kind) (f x : List ℕ) → FieldOf k f → RestOf ks x → RestOf (k ∷ ks) (32 ∷ (f ++ x))
with_field k ks f x good h = record { texts = f ∷ h.texts; formed = (good, h.formed); parts = ap (λ y. 32 ∷ (f ++ y)) h.parts }

-- nothing but byte 10 ends a line
only_end : (l : List ℕ) (fs : List (List ℕ)) → Forms [] fs → l ≡ spaced fs → l ≡ 10 ∷ []
only_end l [] h e = e
only_end l (f ∷ fs) h e = absurd h

-- some text has what is left
some_rest : (ks : List Kind) → Viable (RestOf ks) []
some_rest [] = record { on = 10 ∷ []; makes = record { texts = []; formed = tt; parts = refl } }
some_rest (k ∷ ks) = record { on = 32 ∷ 48 ∷ (some_rest ks).on; makes = with_field k ks (48 ∷ []) (some_rest ks).on (zero_field k) (some_rest ks).makes }

spaced_some : (fs : List (List ℕ)) → 0 < length (spaced fs)
spaced_some [] = omega arith
spaced_some (f ∷ fs) = omega arith

-- no bytes are not what is left
rest_some : (ks : List Kind) → RestOf ks [] → ⊥
rest_some ks h = omega (arith, spaced_some h.texts, ap length h.parts)

stuck_space : (k : Kind) (ks : List Kind) (l : List ℕ) → (0 < length l → get_or l 0 0 ≡ 32 → ⊥) → Stuck (RestOf (k ∷ ks)) [] l
stuck_space k ks [] h = tt
stuck_space k ks (b ∷ q) h = λ v. let is : b ≡ 32 = cc (parted k ks _ v.makes).parts in h (omega arith) is

-- no space where a field is to come
pub refused_space : (k : Kind) (ks : List Kind) (at : ℕ) (l : List ℕ) → (0 < length l → get_or l 0 0 ≡ 32 → ⊥) → Refused (RestOf (k ∷ ks)) at l at
refused_space k ks at l h = record {
  seen = [];
  left = l;
  whole = refl;
  here = omega arith;
  viable = some_rest (k ∷ ks);
  unended = rest_some (k ∷ ks);
  stuck = stuck_space k ks l h;
}

first_of : (k : Kind) (f r : List ℕ) (b : ℕ) (on : List ℕ) → FieldOf k f → b ∷ on ≡ f ++ r → FieldOf k (b ∷ [])
first_of k [] r b on h e = let some = h.some in absurd (omega arith)
first_of k (c ∷ u) r b on h e = let is : c ≡ b = cc in subst (λ d. FieldOf k (d ∷ [])) is (closed k [] c u h)

stuck_field : (k : Kind) (ks : List Kind) (body : List ℕ) → Longest k body 0 → Stuck (RestOf (k ∷ ks)) (32 ∷ []) body
stuck_field k ks [] h = tt
stuck_field k ks (b ∷ q) h = λ v.
    let m = parted k ks _ v.makes in
    let e : b ∷ v.on ≡ m.text ++ m.after = cc m.parts in
    h.stops (omega arith) (first_of k m.text m.after b v.on m.good e)

-- a space, and no field after it
pub refused_field : (k : Kind) (ks : List Kind) (at : ℕ) (l body : List ℕ) → l ≡ 32 ∷ body → Longest k body 0 → Refused (RestOf (k ∷ ks)) at l (at + 1)
refused_field k ks at l body e h = record {
  seen = 32 ∷ [];
  left = body;
  whole = e;
  here = omega arith;
  viable = record { on = 48 ∷ (some_rest ks).on; makes = with_field k ks (48 ∷ []) (some_rest ks).on (zero_field k) (some_rest ks).makes };
  unended = λ v. let m = parted k ks _ v in omega (arith, simp length-append at (ap length m.parts), m.good.some);
  stuck = stuck_field k ks body h;
}

-- what follows the field is what the grammar has after it
cut_after : (k : Kind) (ks : List Kind) (f x : List ℕ) → FieldOf k f → Ends k f x → RestOf (k ∷ ks) (32 ∷ (f ++ x)) → RestOf ks x
cut_after k ks f x good ends v =
    let m = parted k ks _ v in
    let e : f ++ x ≡ m.text ++ m.after = cc m.parts in
    let nil = m.goes_on.parts ∙ sym (append-nil (spaced m.goes_on.texts)) in
    let ends' = subst (Ends k m.text) (sym nil) (spaced_ends k m.text m.goes_on.texts []) in
    subst (RestOf ks) (sym (cut_once k f x m.text m.after good m.good ends ends' e).1) m.goes_on

ends_front : (k : Kind) (f seen left t : List ℕ) → t ≡ seen ++ left → Ends k f t → Ends k f seen
ends_front k f [] left t e h = tt
ends_front k f (b ∷ s) left t e h = subst (Ends k f) e h

ends_one : (k : Kind) (f seen : List ℕ) (b : ℕ) (q on t : List ℕ) → t ≡ seen ++ (b ∷ q) → Ends k f t → Ends k f ((seen ++ b ∷ []) ++ on)
ends_one k f [] b q on t e h = subst (Ends k f) e h
ends_one k f (c ∷ s) b q on t e h = subst (Ends k f) e h

stuck_step : (k : Kind) (ks : List Kind) (f t seen left : List ℕ) → FieldOf k f → Ends k f t → t ≡ seen ++ left → Stuck (RestOf ks) seen left → Stuck (RestOf (k ∷ ks)) (32 ∷ (f ++ seen)) left
stuck_step k ks f t seen [] good ends e h = tt
stuck_step k ks f t seen (b ∷ q) good ends e h = λ v.
    let moved : ((f ++ seen) ++ b ∷ []) ++ v.on ≡ f ++ ((seen ++ b ∷ []) ++ v.on) = simp append_assoc in
    h (record { on = v.on; makes = cut_after k ks f ((seen ++ b ∷ []) ++ v.on) good (ends_one k f seen b q v.on t e ends) (subst (λ x. RestOf (k ∷ ks) (32 ∷ x)) moved v.makes) })

-- a field was read whole, and what follows it is refused
pub refused_took : (k : Kind) (ks : List Kind) (s : Rest) (t : Taken) (why : NoLine) → Took k s t → StopsAt (RestOf ks) t.rest why → StopsAt (RestOf (k ∷ ks)) s why
refused_took k ks s t why h r =
    let f = t.field.bytes.now in
    let x = t.rest.bytes.now in
    let on = with_field k ks f (r.seen ++ r.viable.on) h.good r.viable.makes in
    record {
      seen = 32 ∷ (f ++ r.seen);
      left = r.left;
      whole = h.parts ∙ ap (λ x. 32 ∷ (f ++ x)) r.whole ∙ ap (λ x. 32 ∷ x) (sym (append_assoc f r.seen r.left));
      here = omega (arith, r.here, h.goes_on, h.offset, length-append f r.seen);
      viable = record { on = r.viable.on; makes = subst (λ x. RestOf (k ∷ ks) (32 ∷ x)) (sym (append_assoc f r.seen r.viable.on)) on };
      unended = λ v. r.unended (cut_after k ks f r.seen h.good (ends_front k f r.seen r.left x r.whole h.ends) v);
      stuck = stuck_step k ks f x r.seen r.left h.good h.ends r.whole r.stuck;
    }

stuck_end : (l : List ℕ) → (0 < length l → get_or l 0 0 ≡ 10 → ⊥) → Stuck (RestOf []) [] l
stuck_end [] h = tt
stuck_end (b ∷ q) h = λ v. let is : b ≡ 10 = cc (only_end _ v.makes.texts v.makes.formed v.makes.parts) in h (omega arith) is

-- no byte 10 where the line is to end
pub refused_end : (at : ℕ) (l : List ℕ) → (0 < length l → get_or l 0 0 ≡ 10 → ⊥) → Refused (RestOf []) at l at
refused_end at l h = record { seen = []; left = l; whole = refl; here = omega arith; viable = some_rest []; unended = rest_some []; stuck = stuck_end l h }

marked_rest : (m : Mark) (l x : List ℕ) → LineOf m l → l ≡ first m ∷ second m ∷ x → RestOf (kinds m) x
marked_rest m l x v e = record { texts = v.texts; formed = v.formed; parts = cc v.parts }

stuck_mark : (m : Mark) (seen left : List ℕ) → Stuck (RestOf (kinds m)) seen left → Stuck (LineOf m) (first m ∷ second m ∷ seen) left
stuck_mark m seen [] h = tt
stuck_mark m seen (b ∷ q) h = λ v. h (record { on = v.on; makes = marked_rest m _ _ v.makes refl })

-- what follows the mark is refused
pub refused_line : (m : Mark) (at place : ℕ) (l after : List ℕ) → Marked m l after → Refused (RestOf (kinds m)) (at + 2) after place → Refused (LineOf m) at l place
refused_line m at place l after e r =
    let on = r.viable.makes in
    record {
      seen = first m ∷ second m ∷ r.seen;
      left = r.left;
      whole = e.parts ∙ ap (λ x. first m ∷ second m ∷ x) r.whole;
      here = omega (arith, r.here);
      viable = record { on = r.viable.on; makes = record { texts = on.texts; formed = on.formed; parts = ap (λ x. first m ∷ second m ∷ x) on.parts } };
      unended = λ v. r.unended (marked_rest m _ r.seen v refl);
      stuck = stuck_mark m r.seen r.left r.stuck;
    }
