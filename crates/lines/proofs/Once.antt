-- A text begins with one line, or is declined in one way, and not both.
use Rattle.std.proofs.Common.{◌≡◌, ℕ, cond, eqb, List, [], ◌∷◌, ◌++◌, length, get_or, Ok, Err, Result, sym, refl, ap, ◌∙◌, subst, append_assoc, append-nil, arith, MatchResult}
use Rattle.lines.specs.declared.line.Mark.{Mark}
use Rattle.lines.specs.declared.line.Mark.TheVariants.{Board, Gate, Trap, End}
use Rattle.lines.specs.declared.line.Read.{Read}
use Rattle.lines.specs.declared.refusal.Refusal.TheVariants.{NoLine}
use Rattle.lines.specs.declared.refusal.Refusal.{Refusal}
use Rattle.lines.specs.declared.refusal.Told.{Told}
use Rattle.lines.specs.Grammar.{Forms, spaced, first, second, kinds, Marked, LineOf, Viable, Stuck, Refused}
use Rattle.lines.specs.Lines.{Entry, board, gate, trap, end, mark_of, texts, Formed, line_bytes, entry_of, Declined, unmarked, unlined, Answers, start, ahead, Reads}
use Rattle.lines.specs.Refusals.{told}
use Rattle.lines.proofs.Fields.{compare, same, longer, shorter, spaced_once}
use Rattle.lines.proofs.Texts.{answer_parts}

-- what is stuck after p does not begin a text of L with one byte more
not_on : (L : List ℕ → Type 0) (p left : List ℕ) (b : ℕ) (x u on : List ℕ) → Stuck L p left → left ≡ b ∷ x → L ((p ++ (b ∷ u)) ++ on) → ⊥
not_on L p [] b x u on h e t = let z : ◌≡◌ {A = ℕ} 0 1 = cc in omega arith
not_on L p (c ∷ left) b x u on h e t =
    let s : b ≡ c = cc in
    let moved : (p ++ (b ∷ u)) ++ on ≡ (p ++ (b ∷ [])) ++ (u ++ on) = simp append_assoc in
    h (subst (λ d. Viable L (p ++ (d ∷ []))) s (record { on = u ++ on; makes = subst L moved t }))

-- a text is refused at one place
pub refused_once : (L : List ℕ → Type 0) (at : ℕ) (l : List ℕ) (p q : ℕ) → Refused L at l p → Refused L at l q → p ≡ q
refused_once L at l p q r s =
    elim (compare r.seen r.left s.seen s.left (sym r.whole ∙ s.whole)) [
      | same e f ↦ omega (arith, r.here, s.here, ap length e)
      | longer b u e f ↦ absurd (not_on L r.seen r.left b _ u s.viable.on r.stuck f (subst (λ x. L (x ++ s.viable.on)) e s.viable.makes))
      | shorter b u e f ↦ absurd (not_on L s.seen s.left b _ u r.viable.on s.stuck f (subst (λ x. L (x ++ r.viable.on)) e r.viable.makes))
    ]

-- no line goes on after its end
line_ends : (m : Mark) (a : List ℕ) (b : ℕ) (x : List ℕ) → LineOf m a → LineOf m (a ++ (b ∷ x)) → ⊥
line_ends m a b x h t =
    let front : a ++ (b ∷ x) ≡ first m ∷ second m ∷ (spaced h.texts ++ (b ∷ x)) = ap (λ y. y ++ (b ∷ x)) h.parts in
    let on : spaced h.texts ++ (b ∷ x) ≡ spaced t.texts = cc (front, t.parts) in
    let once = spaced_once (kinds m) h.texts t.texts (b ∷ x) [] h.formed t.formed (on ∙ sym (append-nil (spaced t.texts))) in
    omega (arith, ap length once.1)

-- a text that begins with a line is not refused
line_stands : (m : Mark) (at : ℕ) (p q : List ℕ) (place : ℕ) → LineOf m p → Refused (LineOf m) at (p ++ q) place → ⊥
line_stands m at p q place h r =
    elim (compare p q r.seen r.left r.whole) [
      | same e f ↦ r.unended (subst (LineOf m) e h)
      | longer b u e f ↦
          let moved : r.seen ++ r.viable.on ≡ p ++ (b ∷ (u ++ r.viable.on)) = ap (λ y. y ++ r.viable.on) e ∙ append_assoc p (b ∷ u) r.viable.on in
          line_ends m p b (u ++ r.viable.on) h (subst (LineOf m) moved r.viable.makes)
      | shorter b u e f ↦ not_on (LineOf m) r.seen r.left b _ u [] r.stuck f (subst (LineOf m) (e ∙ sym (append-nil _)) h)
    ]

-- the mark whose first byte this is
by_first : ℕ → Mark
by_first b = cond (eqb b 98) Board (cond (eqb b 103) Gate (cond (eqb b 116) Trap End))

by_first_is : (m : Mark) → by_first (first m) ≡ m
unfolding by_first
by_first_is Board = refl
by_first_is Gate = refl
by_first_is Trap = refl
by_first_is End = refl

-- a text has one mark
mark_once : (m n : Mark) (l after more : List ℕ) → Marked m l after → Marked n l more → m ≡ n
mark_once m n l after more h t =
    let e : first m ≡ first n = cc (h.parts, t.parts) in
    sym (by_first_is m) ∙ ap by_first e ∙ by_first_is n

rebuilt : Mark → List (List ℕ) → Entry
rebuilt Board fs = board (get_or fs 0 [])
rebuilt Gate fs = gate (get_or fs 0 []) (get_or fs 1 []) (get_or fs 2 [])
rebuilt Trap fs = trap (get_or fs 0 [])
rebuilt End fs = end

rebuilt_is : (e : Entry) → rebuilt (mark_of e) (texts e) ≡ e
unfolding rebuilt
rebuilt_is (board n) = refl
rebuilt_is (gate u v p) = refl
rebuilt_is (trap v) = refl
rebuilt_is end = refl

front_mark : (e : Entry) (l x : List ℕ) → l ≡ line_bytes e ++ x → Marked (mark_of e) l (spaced (texts e) ++ x)
front_mark e l x p = record { parts = p }

-- a text begins with one line
pub line_once : (d e : Entry) (x y : List ℕ) → Formed d → Formed e → line_bytes d ++ x ≡ line_bytes e ++ y → (d ≡ e) × (x ≡ y)
line_once d e x y h k p =
    let m : mark_of d ≡ mark_of e = mark_once _ _ _ _ _ (front_mark d (line_bytes d ++ x) x refl) (front_mark e (line_bytes d ++ x) y p) in
    let after : spaced (texts d) ++ x ≡ spaced (texts e) ++ y = cc in
    let once = spaced_once (kinds (mark_of d)) (texts d) (texts e) x y h (subst (λ a. Forms (kinds a) (texts e)) (sym m) k) after in
    (sym (rebuilt_is d) ∙ ap (λ a. rebuilt a (texts d)) m ∙ ap (rebuilt (mark_of e)) once.0 ∙ rebuilt_is e, once.1)

-- what begins with a line is not declined
pub apart : (at : ℕ) (e : Entry) (l x : List ℕ) (t : Told) → Formed e → l ≡ line_bytes e ++ x → Declined at l t → ⊥
apart at e l x t h p (unmarked none is) = none (mark_of e) (spaced (texts e) ++ x) (front_mark e l x p)
apart at e l x t h p (unlined n after place marked refused is) =
    let m : n ≡ mark_of e = mark_once n (mark_of e) l _ _ marked (front_mark e l x p) in
    let line : LineOf (mark_of e) (line_bytes e) = record { texts = texts e; formed = h; parts = refl } in
    line_stands (mark_of e) at (line_bytes e) x place line (subst (λ y. Refused (LineOf (mark_of e)) at y place) p (subst (λ y. Refused (LineOf y) at l place) m refused))

-- a text is declined in one way
pub declined_once : (at : ℕ) (l : List ℕ) (t s : Told) → Declined at l t → Declined at l s → t ≡ s
declined_once at l t s (unmarked none is) (unmarked none' is') = is ∙ sym is'
declined_once at l t s (unmarked none is) (unlined n after place marked refused is') = absurd (none n after marked)
declined_once at l t s (unlined m after place marked refused is) (unmarked none is') = absurd (none m after marked)
declined_once at l t s (unlined m after p marked refused is) (unlined n after' q marked' refused' is') =
    let same_mark : n ≡ m = mark_once n m l _ _ marked' marked in
    let e : p ≡ q = refused_once (LineOf m) at l p q refused (subst (λ x. Refused (LineOf x) at l q) same_mark refused') in
    is ∙ ap (λ x. told (NoLine x)) e ∙ sym is'

sole_line : (at : ℕ) (l : List ℕ) (r : Result Read Refusal) → Answers at l r → (e : Entry) (after : List ℕ) → Formed e → l ≡ line_bytes e ++ after → MatchResult r (λ x. entry_of x.line ≡ e) (λ _. ⊥)
sole_line at l (Ok x) h e after formed p = (line_once (entry_of x.line) e h.after after h.formed formed (sym h.parts ∙ p)).0
sole_line at l (Err why) h e after formed p = apart at e l after (told why) formed p h

sole_refusal : (at : ℕ) (l : List ℕ) (r : Result Read Refusal) → Answers at l r → (t : Told) → Declined at l t → MatchResult r (λ _. ⊥) (λ why. told why ≡ t)
sole_refusal at l (Ok x) h t d = apart at (entry_of x.line) l h.after t h.formed h.parts d
sole_refusal at l (Err why) h t d = declined_once at l (told why) t h d

-- a right answer is the only one
pub sole : (sheet : List ℕ) (at : ℕ) (r : Result Read Refusal) → Answers (start sheet at) (ahead sheet at) r → Reads sheet at r
sole sheet at r h = record { right = h; parts = answer_parts sheet at r h; line = sole_line _ _ r h; refusal = sole_refusal _ _ r h }
