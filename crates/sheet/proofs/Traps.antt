-- The traps of a sheet are lawful.
use Rattle.std.proofs.Common.{ℕ, ◌<◌, List, [], ◌∷◌, ◌++◌, length, Some, None, Option, sym, ◌∙◌, subst, inl, inr, arith, length-append}
use Rattle.std.proofs.ByRecursion.{All-push}
use Rattle.std.proofs.lemmas.List.{get_or_append_left, get_or_default, get_or_push}
use Rattle.std.proofs.lemmas.Bool.{cases_lt}
use Rattle.std.specs.List.{ContainsAt}
use Rattle.lines.specs.Lines.{Entry, board, gate, trap, end}
use Rattle.lines.specs.Values.{decimal}
use Rattle.sheet.specs.Rules.{Lawful, Writes, LawfulTraps}
use Rattle.sheet.specs.Says.{Held, added, after}

traps_push : (n : ℕ) (ts : List ℕ) (w : ℕ) → LawfulTraps n ts → w < n → (ContainsAt ts w → ⊥) → LawfulTraps n (ts ++ (w ∷ []))
traps_push n ts w h below new =
    let long = length-append ts (w ∷ []) in
    record {
      spots = All-push (λ v. v < n) ts w h.spots below;
      once = λ i j lt within e.
          let first = get_or_append_left ts (w ∷ []) 0 i (omega arith) in
          elim (cases_lt j (length ts)) [
            | inl l ↦ h.once i j lt l (sym first ∙ e ∙ get_or_append_left ts (w ∷ []) 0 j l)
            | inr l ↦
                let last = get_or_push ts w 0 j (omega arith) in
                new (i, omega arith, λ d. get_or_default ts i d 0 (omega arith) ∙ sym first ∙ e ∙ last)
          ];
    }

-- what is said has lawful traps
abbrev Trapped : Option Held → Type 0
Trapped None = Unit {0}
Trapped (Some s) = LawfulTraps s.spots s.traps

trapped_after : (s : Option Held) (es : List Entry) → Trapped s → Lawful s es → Trapped (after s es)
trapped_after s [] h k = h
trapped_after None (board n ∷ es) h k = trapped_after (added None (board n)) es (record { spots = tt; once = λ i j lt within e. omega arith }) k.3
trapped_after None (gate u v p ∷ es) h k = absurd (k.2.0 tt)
trapped_after None (trap v ∷ es) h k = absurd (k.2.0 tt)
trapped_after None (end ∷ es) h k = absurd k.0
trapped_after (Some s) (board n ∷ es) h k = absurd (k.2.0 tt)
trapped_after (Some s) (gate u v p ∷ es) h k = trapped_after (added (Some s) (gate u v p)) es h k.3
trapped_after (Some s) (trap v ∷ es) h k =
    let below : decimal v < s.spots = omega (arith, k.2.0) in
    trapped_after (added (Some s) (trap v)) es (traps_push s.spots s.traps (decimal v) h below k.2.1.0) k.3
trapped_after (Some s) (end ∷ es) h k = absurd k.0

pub writes_traps : (text : List ℕ) (s : Held) → Writes text s → LawfulTraps s.spots s.traps
writes_traps text s w = subst Trapped w.says (trapped_after None w.lines tt w.lawful)
