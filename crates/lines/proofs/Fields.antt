-- Fields: what their bytes and their lengths give.
use Rattle.std.proofs.Common.{◌≡◌, ℕ, ◌+◌, ◌<◌, ◌≤◌, List, [], ◌∷◌, ◌++◌, length, get_or, take, drop, sym, refl, ap, ◌∙◌, subst, inl, inr, append_assoc, add-zero, arith, length-append, length-drop, length-take-le, get_or-drop, get_or-take}
use Rattle.std.proofs.ByRecursion.{All-get_or, All-from_get_or}
use Rattle.std.proofs.lemmas.List.{take_more}
use Rattle.std.specs.List.{AllByRecursion}
use Rattle.lines.specs.Grammar.{Kind, Number, Pattern, Byte, most, Plain, FieldOf, Forms, spaced}
use Rattle.lines.specs.Reading.{Run, Longest, Ends}

-- two ways to cut one text
pub data Compared (f x g r : List ℕ) : Type 0 where
  same : f ≡ g → x ≡ r → Compared f x g r
  longer : (b : ℕ) (u : List ℕ) → g ≡ f ++ (b ∷ u) → x ≡ b ∷ (u ++ r) → Compared f x g r
  shorter : (b : ℕ) (u : List ℕ) → f ≡ g ++ (b ∷ u) → r ≡ b ∷ (u ++ x) → Compared f x g r

pub compare : (f x g r : List ℕ) → f ++ x ≡ g ++ r → Compared f x g r
compare [] x [] r e = same refl e
compare [] x (b ∷ g) r e = longer b g refl e
compare (b ∷ f) x [] r e = shorter b f refl (sym e)
compare (b ∷ f) x (c ∷ g) r e =
    let h : b ≡ c = cc in
    let t : f ++ x ≡ g ++ r = cc in
    elim (compare f x g r t) [ same p q ↦ same (cc) q | longer d u p q ↦ longer d u (cc) q | shorter d u p q ↦ shorter d u (cc) q ]

all_front : (P : ℕ → Type 0) (f : List ℕ) (b : ℕ) (u : List ℕ) → AllByRecursion P (f ++ (b ∷ u)) → AllByRecursion P (f ++ (b ∷ []))
all_front P [] b u h = (h.0, tt)
all_front P (c ∷ f) b u h = (h.0, all_front P f b u h.1)

all_at : (P : ℕ → Type 0) (f : List ℕ) (b : ℕ) (u : List ℕ) → AllByRecursion P (f ++ (b ∷ u)) → P b
all_at P [] b u h = h.0
all_at P (c ∷ f) b u h = all_at P f b u h.1

front_shorter : (f : List ℕ) (b : ℕ) (u : List ℕ) → length (f ++ (b ∷ [])) ≤ length (f ++ (b ∷ u))
front_shorter f b u = simp length-append (omega arith)

plain_front : (k : Kind) (f : List ℕ) (b : ℕ) (u : List ℕ) → Plain k (f ++ (b ∷ u)) → Plain k (f ++ (b ∷ []))
plain_front Pattern f b u h = tt
plain_front Number [] b u h = λ l e. omega arith
plain_front Number (c ∷ f) b u h = λ l e. h (omega (arith, front_shorter (c ∷ f) b u)) e

-- the front of a field is a field
pub closed : (k : Kind) (f : List ℕ) (b : ℕ) (u : List ℕ) → FieldOf k (f ++ (b ∷ u)) → FieldOf k (f ++ (b ∷ []))
closed k f b u h = record {
  some = simp length-append (omega arith);
  short = omega (arith, front_shorter f b u, h.short);
  bytes = all_front _ f b u h.bytes;
  plain = plain_front k f b u h.plain;
}

byte_low : (k : Kind) (b : ℕ) → Byte k b → 48 ≤ b
byte_low Number b h = h.0
byte_low Pattern b h = elim h [ inl e ↦ omega arith | inr e ↦ omega arith ]

-- the bytes of a field are none that stands between fields
byte_of : (k : Kind) (f : List ℕ) (b : ℕ) (u : List ℕ) → FieldOf k (f ++ (b ∷ u)) → 48 ≤ b
byte_of k f b u h = byte_low k b (all_at (Byte k) f b u h.bytes)

byte_zero : (k : Kind) → Byte k 48
byte_zero Number = (omega arith, omega arith)
byte_zero Pattern = inl refl

most_some : (k : Kind) → 1 ≤ most k
most_some Number = omega arith
most_some Pattern = omega arith

plain_one : (k : Kind) (b : ℕ) → Plain k (b ∷ [])
plain_one Number b = λ l e. omega arith
plain_one Pattern b = tt

-- one field of each kind: 0
pub zero_field : (k : Kind) → FieldOf k (48 ∷ [])
zero_field k = record { some = omega arith; short = most_some k; bytes = (byte_zero k, tt); plain = plain_one k 48 }

ends_longer : (k : Kind) (f x : List ℕ) (b : ℕ) (u : List ℕ) → Ends k f x → x ≡ b ∷ u → FieldOf k (f ++ (b ∷ [])) → ⊥
ends_longer k f [] b u ends e h = let z : ◌≡◌ {A = ℕ} 0 1 = cc in omega arith
ends_longer k f (c ∷ x) b u ends e h = let s : b ≡ c = cc in ends (subst (λ d. FieldOf k (f ++ (d ∷ []))) s h)

-- a text is cut after its field in one way
pub cut_once : (k : Kind) (f x g y : List ℕ) → FieldOf k f → FieldOf k g → Ends k f x → Ends k g y → f ++ x ≡ g ++ y → (f ≡ g) × (x ≡ y)
cut_once k f x g y hf hg ends ends' e =
    elim (compare f x g y e) [
      | same p q ↦ (p, q)
      | longer b u p q ↦ absurd (ends_longer k f x b (u ++ y) ends q (closed k f b u (subst (FieldOf k) p hg)))
      | shorter b u p q ↦ absurd (ends_longer k g y b (u ++ x) ends' q (closed k g b u (subst (FieldOf k) p hf)))
    ]

-- neither a space nor byte 10 goes on with a field
pub spaced_ends : (k : Kind) (f : List ℕ) (fs : List (List ℕ)) (x : List ℕ) → Ends k f (spaced fs ++ x)
spaced_ends k f [] x = λ h. omega (arith, byte_of k f 10 [] h)
spaced_ends k f (g ∷ fs) x = λ h. omega (arith, byte_of k f 32 [] h)

-- fields between spaces are told apart
pub spaced_once : (ks : List Kind) (fs gs : List (List ℕ)) (x y : List ℕ) → Forms ks fs → Forms ks gs → spaced fs ++ x ≡ spaced gs ++ y → (fs ≡ gs) × (x ≡ y)
spaced_once [] [] [] x y h k e = (refl, cc)
spaced_once [] [] (g ∷ gs) x y h k e = absurd k
spaced_once [] (f ∷ fs) gs x y h k e = absurd h
spaced_once (a ∷ ks) [] gs x y h k e = absurd h
spaced_once (a ∷ ks) (f ∷ fs) [] x y h k e = absurd k
spaced_once (a ∷ ks) (f ∷ fs) (g ∷ gs) x y h k e =
    let whole : (f ++ spaced fs) ++ x ≡ (g ++ spaced gs) ++ y = cc in
    let cut : f ++ (spaced fs ++ x) ≡ g ++ (spaced gs ++ y) = sym (append_assoc f (spaced fs) x) ∙ whole ∙ append_assoc g (spaced gs) y in
    let once = cut_once a f (spaced fs ++ x) g (spaced gs ++ y) h.0 k.0 (spaced_ends a f fs x) (spaced_ends a g gs y) cut in
    let rest = spaced_once ks fs gs x y h.1 k.1 once.1 in
    (cc (once.0, rest.0), rest.1)

run_all : (k : Kind) (limit : ℕ) (body : List ℕ) (n : ℕ) → Run k limit body n → AllByRecursion (Byte k) (take n body)
run_all k limit body n r =
    let long = length-take-le n body r.within in
    All-from_get_or (Byte k) (take n body) 0 (λ i h. subst (Byte k) (sym (get_or-take n body i 0 (omega arith))) (r.all i (omega arith)))

next_in : (k : Kind) (body : List ℕ) (n : ℕ) → n < length body → AllByRecursion (Byte k) (take (n + 1) body) → Byte k (get_or body n 0)
next_in k body n h all =
    let long = length-take-le (n + 1) body (omega arith) in
    subst (Byte k) (get_or-take (n + 1) body n 0 (omega arith)) (All-get_or (Byte k) (take (n + 1) body) n 0 (omega arith) all)

-- a run of the most bytes is the longest field, unless a number begins with 0
pub longest_run : (k : Kind) (body : List ℕ) (n : ℕ) → Run k (most k) body n → Plain k (take n body) → Longest k body n
longest_run k body n r plain =
    let long = length-take-le n body r.within in
    record {
      within = r.within;
      good = λ h. record { some = omega arith; short = omega (arith, r.bounded); bytes = run_all k (most k) body n r; plain = plain };
      stops = λ h f. let more = length-take-le (n + 1) body (omega arith) in r.stops h (omega (arith, f.short)) (next_in k body n h f.bytes);
    }

-- no number that begins with another byte than 0 has a 0 ahead of a digit
pub plain_from : (body : List ℕ) (n : ℕ) → n ≤ length body → (0 < length body → get_or body 0 0 ≡ 48 → ⊥) → Plain Number (take n body)
plain_from body n within h = λ l e.
    let long = length-take-le n body within in
    h (omega arith) (sym (get_or-take n body 0 0 (omega arith)) ∙ e)

ends_from : (k : Kind) (f t : List ℕ) → (0 < length t → FieldOf k (f ++ get_or t 0 0 ∷ []) → ⊥) → Ends k f t
ends_from k f [] h = tt
ends_from k f (b ∷ t) h = h (omega arith)

-- where the longest field at the front ends, no byte goes on with it
pub longest_ends : (k : Kind) (body : List ℕ) (n : ℕ) → Longest k body n → Ends k (take n body) (drop n body)
longest_ends k body n h = ends_from k (take n body) (drop n body) (λ l f.
    let long = length-drop n body in
    let lt : n < length body = omega arith in
    let next : get_or (drop n body) 0 0 ≡ get_or body n 0 = get_or-drop n body 0 0 ∙ ap (λ i. get_or body i 0) (add-zero n) in
    h.stops lt (subst (FieldOf k) (ap (λ b. take n body ++ b ∷ []) next ∙ sym (take_more body n 0 lt)) f))
