-- A text is one sheet, or broken in one way, and not both.
use Rattle.std.proofs.Common.{◌≡◌, ℕ, ◌⊎◌, List, [], ◌∷◌, ◌++◌, length, Some, None, Ok, Err, Option, Result, sym, refl, ap, ◌∙◌, subst, inl, inr, append_assoc, arith}
use Rattle.lines.proofs.Once.{line_once, apart, declined_once}
use Rattle.lines.specs.declared.refusal.Told.{Told}
use Rattle.lines.specs.Lines.{Entry, end, Formed, line_bytes}
use Rattle.sheet.proofs.Tables.{first_once, first_clean, any_more}
use Rattle.sheet.proofs.Traps.{writes_traps}
use Rattle.sheet.specs.declared.refusal.Refusal.{Refusal}
use Rattle.sheet.specs.declared.sheet.Sheet.{Sheet}
use Rattle.sheet.specs.Readings.{Explains, Right, Reads}
use Rattle.sheet.specs.Refusals.{told}
use Rattle.sheet.specs.Rules.{Within, breaches, Clean, First, GoesOn, Lawful, Writes, Fault, nothing, unread, unlawful, BrokenAt}
use Rattle.sheet.specs.Says.{Held, added, after, written, kept}

-- no lawful line goes on from here
abbrev Stops : Option Held → List ℕ → Type 0
Stops s x = (e : Entry) (more : List ℕ) → x ≡ line_bytes e ++ more → GoesOn e → Formed e → Clean (breaches s e []) → ⊥

end_stops : (s : Option Held) (x more : List ℕ) → x ≡ line_bytes end ++ more → Stops s x
end_stops s x more p e rest q on formed clean = subst GoesOn (line_once e end rest more formed tt (sym q ∙ p)).0 on

fault_stops : (s : Option Held) (at : ℕ) (x : List ℕ) (t : Told) → Fault s at x t → Stops s x
fault_stops s at x t (nothing p is) e more q on formed clean = let z : ◌≡◌ {A = ℕ} 0 1 = cc in omega arith
fault_stops s at x t (unread some d) e more q on formed clean = apart at e x more t formed q d
fault_stops s at x t (unlawful d rest f p h) e more q on formed clean =
    let same : e ≡ d = (line_once e d more rest formed f (sym q ∙ p)).0 in
    first_clean at (breaches s d rest) t h (subst (λ e. Clean (breaches s e rest)) same (any_more Clean s e rest on clean))

-- two runs of lawful lines of one text that both stop are one
run_once : (s : Option Held) (gs hs : List Entry) (x y : List ℕ) → Lawful s gs → Lawful s hs → Stops (after s gs) x → Stops (after s hs) y → written gs ++ x ≡ written hs ++ y → (gs ≡ hs) × (x ≡ y)
run_once s [] [] x y h k p q e = (refl, e)
run_once s [] (d ∷ hs) x y h k p q e = absurd (p d (written hs ++ y) (e ∙ append_assoc (line_bytes d) (written hs) y) k.0 k.1 k.2)
run_once s (d ∷ gs) [] x y h k p q e = absurd (q d (written gs ++ x) (sym e ∙ append_assoc (line_bytes d) (written gs) x) h.0 h.1 h.2)
run_once s (d ∷ gs) (c ∷ hs) x y h k p q e =
    let cut = sym (append_assoc (line_bytes d) (written gs) x) ∙ e ∙ append_assoc (line_bytes c) (written hs) y in
    let first_line = line_once d c (written gs ++ x) (written hs ++ y) h.1 k.1 cut in
    let is = sym first_line.0 in
    let rest = run_once (added s d) gs hs x y h.3 (subst (λ c. Lawful (added s c) hs) is k.3) p (subst (λ c. Stops (after (added s c) hs) y) is q) first_line.1 in
    (cc (first_line.0, rest.0), rest.1)

-- a text is one sheet
pub writes_once : (text : List ℕ) (s t : Held) → Writes text s → Writes text t → s ≡ t
writes_once text s t v w =
    let once = run_once None v.lines w.lines (line_bytes end) (line_bytes end) v.lawful w.lawful (end_stops _ (line_bytes end) [] refl) (end_stops _ (line_bytes end) [] refl) (sym v.whole ∙ w.whole) in
    let same : Some s ≡ Some t = sym v.says ∙ ap (after None) once.0 ∙ w.says in
    cc

-- a lawful end is no fault
fault_end : (s : Held) (at : ℕ) (x : List ℕ) (t : Told) → Fault (Some s) at x t → x ≡ line_bytes end → Within s → ⊥
fault_end s at x t (nothing p is) e w = let z : ◌≡◌ {A = ℕ} 0 1 = cc in omega arith
fault_end s at x t (unread some d) e w = apart at end x [] t tt e d
fault_end s at x t (unlawful d more f p h) e w =
    let once = line_once end d [] more tt f (sym e ∙ p) in
    let ended : First at (breaches (Some s) end []) t = subst (λ d. First at (breaches (Some s) d []) t) (sym once.0) (subst (λ m. First at (breaches (Some s) d m) t) (sym once.1) h) in
    elim ended [ inl a ↦ omega (arith, a.0) | inr a ↦ elim a.1 [ inl o ↦ omega (arith, w o.0.0 o.0.1, o.0.2) | inr z ↦ z.1 ] ]

-- a sheet is not broken
pub writes_apart : (text : List ℕ) (s : Held) (t : Told) → Writes text s → BrokenAt text t → ⊥
writes_apart text s t w b =
    let once = run_once None w.lines b.lines (line_bytes end) b.rest w.lawful b.lawful (end_stops _ (line_bytes end) [] refl) (fault_stops _ _ _ _ b.fault) (sym w.whole ∙ b.whole) in
    let same : after None b.lines ≡ Some s = ap (after None) (sym once.0) ∙ w.says in
    fault_end s _ b.rest t (subst (λ o. Fault o (length (written b.lines)) b.rest t) same b.fault) (sym once.1) w.within

-- a text breaks off in one way
fault_once : (s : Option Held) (at : ℕ) (x : List ℕ) (t u : Told) → Fault s at x t → Fault s at x u → t ≡ u
fault_once s at x t u (nothing p is) (nothing q are) = is ∙ sym are
fault_once s at x t u (nothing p is) (unread some d) = let z = ap length p in absurd (omega arith)
fault_once s at x t u (nothing p is) (unlawful e more f q h) = let z : ◌≡◌ {A = ℕ} 0 1 = cc in absurd (omega arith)
fault_once s at x t u (unread some d) (nothing p is) = let z = ap length p in absurd (omega arith)
fault_once s at x t u (unread some d) (unread some' c) = declined_once at x t u d c
fault_once s at x t u (unread some d) (unlawful e more f q h) = absurd (apart at e x more t f q d)
fault_once s at x t u (unlawful e more f q h) (nothing p is) = let z : ◌≡◌ {A = ℕ} 0 1 = cc in absurd (omega arith)
fault_once s at x t u (unlawful e more f q h) (unread some d) = absurd (apart at e x more u f q d)
fault_once s at x t u (unlawful e more f q h) (unlawful d rest g p k) =
    let once = line_once d e rest more g f (sym p ∙ q) in
    first_once at (breaches s e more) t u h (subst (λ e. First at (breaches s e more) u) once.0 (subst (λ m. First at (breaches s d m) u) once.1 k))

-- a text is broken in one way
pub broken_once : (text : List ℕ) (t u : Told) → BrokenAt text t → BrokenAt text u → t ≡ u
broken_once text t u b c =
    let once = run_once None b.lines c.lines b.rest c.rest b.lawful c.lawful (fault_stops _ _ _ _ b.fault) (fault_stops _ _ _ _ c.fault) (sym b.whole ∙ c.whole) in
    fault_once _ _ _ t u b.fault
    (subst (λ es. Fault (after None es) (length (written es)) b.rest u) (sym once.0)
    (subst (λ l. Fault (after None c.lines) (length (written c.lines)) l u) (sym once.1) c.fault))

given_or_none : (text : List ℕ) (s : Held) (o : Option Told) → Explains text o → Writes text s → o ≡ None
given_or_none text s None h w = refl
given_or_none text s (Some t) h w = absurd (writes_apart text s t w h)

told_or_none : (text : List ℕ) (t : Told) (o : Option Told) → Explains text o → BrokenAt text t → (o ≡ Some t) ⊎ (o ≡ None)
told_or_none text t None h b = inr refl
told_or_none text t (Some u) h b = inl (ap (λ x. Some x) (broken_once text u t h b))

-- a right answer is the only one
pub exactly : (text : List ℕ) (a : Result Sheet Refusal) → Right text a → Reads text a
exactly text (Ok x) h = record { right = h; traps = writes_traps text (kept x) h; sheet = λ s w. writes_once text (kept x) s h w; refusal = λ t b. writes_apart text (kept x) t h b }
exactly text (Err why) h = record { right = h; traps = tt; sheet = λ s w. given_or_none text s (told why) h w; refusal = λ t b. told_or_none text t (told why) h b }
