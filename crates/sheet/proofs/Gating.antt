-- Gates and traps: what their lines and the draft of a board say of each other.
use Rattle.std.proofs.Common.{◌≡◌, ℕ, ◌<◌, false, ◌&&◌, eqb, ◌⊎◌, List, [], ◌∷◌, ◌++◌, length, get_or, Some, Ok, Err, Result, MatchResult, Decides, sym, refl, ap, ◌∙◌, subst, inl, inr, add-zero, arith}
use Rattle.std.proofs.ByRecursion.{All-get_or, All-from_get_or}
use Rattle.std.proofs.lemmas.Bool.{both_ways, eq-eqb, false≢true}
use Rattle.std.proofs.lemmas.Bool.Decides.{Decides-eqb, Decides-and, Decides-or, not_from_Decides}
use Rattle.std.specs.List.{AllWithin, AllByRecursion}
use Rattle.board.proofs.SetBits.{within_below}
use Rattle.board.specs.declared.draft.refusal.GateRefusal.{GateRefusal}
use Rattle.board.specs.declared.draft.refusal.GateRefusal.TheVariants.{OffBoard, EqualEnds, RepeatedPair, TooMany, NoMemory}
use Rattle.board.specs.declared.gate.Gate.{Gate}
use Rattle.board.specs.declared.pattern.refusal.PatternRefusal.{PatternRefusal}
use Rattle.board.specs.declared.pattern.refusal.PatternRefusal.TheVariants.{Length, BitPastLength, NoBit}
use Rattle.board.specs.GateRefused.{Fits, Cause}
use Rattle.board.specs.Gates.{same_pair, repeats}
use Rattle.board.specs.PatternRefused.{Cause as PatternCause}
use Rattle.board.specs.Patterns.{bit, Lawful as LawfulPattern}
use Rattle.lines.specs.Grammar.{Pattern, Byte, FieldOf}
use Rattle.lines.specs.Lines.{gate, trap}
use Rattle.lines.specs.Values.{decimal, bits, bit as character_bit, Stepped}
use Rattle.sheet.specs.declared.refusal.Refusal.{Refusal}
use Rattle.sheet.specs.Parts.{gate_refusal, TurnedDown, Takes}
use Rattle.sheet.specs.Refusals.{board_rule, told}
use Rattle.sheet.specs.Rules.{Joined, breaches, Clean}
use Rattle.sheet.specs.Says.{Row, row, row_of, rows}

pub length_rows : (gs : List Gate) → length (rows gs) ≡ length gs
length_rows [] = refl
length_rows (g ∷ gs) = omega (arith, length_rows gs)

pub rows_push : (gs : List Gate) (g : Gate) → rows (gs ++ (g ∷ [])) ≡ rows gs ++ (row_of g ∷ [])
rows_push [] g = refl
rows_push (h ∷ gs) g = ap (λ rs. row_of h ∷ rs) (rows_push gs g)

-- a draft's look for a pair tells whether some row joins it
decides_joined : (g : Gate) (gs : List Gate) → Decides (repeats g gs) (Joined g.from g.to (rows gs))
decides_joined g [] = (λ e. let z : ◌≡◌ {A = ℕ} 0 1 = cc in omega arith, λ h. absurd h)
decides_joined g (h ∷ gs) =
    Decides-or (same_pair g h) (repeats g gs)
    (Decides-or (eqb g.from h.from && eqb g.to h.to) (eqb g.from h.to && eqb g.to h.from)
    (Decides-and (eqb g.from h.from) (eqb g.to h.to) (Decides-eqb g.from h.from) (Decides-eqb g.to h.to))
    (Decides-and (eqb g.from h.to) (eqb g.to h.from) (Decides-eqb g.from h.to) (Decides-eqb g.to h.from)))
    (decides_joined g gs)

-- characters that are all 0 set no bit
shut_none : (p : List ℕ) → AllByRecursion (λ b. b ≡ 48) p → bits p ≡ 0
shut_none [] h = refl
shut_none (b ∷ p) h = omega (arith, ap character_bit h.0, shut_none p h.1)

only_shut : (b : ℕ) → Byte Pattern b → (b ≡ 49 → ⊥) → b ≡ 48
only_shut b h k = elim h [ inl e ↦ e | inr e ↦ absurd (k e) ]

-- a pattern's field makes no pattern only where all its characters are 0
pub pattern_shut : (p : List ℕ) (r : ℕ) (why : PatternRefusal) → FieldOf Pattern p → Stepped p r → PatternCause r (length p) why → AllByRecursion (λ b. b ≡ 48) p
pattern_shut p r Length field steps h = absurd (h (field.some, field.short))
pattern_shut p r BitPastLength field steps h = absurd (both_ways (bit r h.1.0) (within_below r (length p) steps.below h.1.0 h.1.1) h.1.2)
pattern_shut p r NoBit field steps h =
    All-from_get_or (λ b. b ≡ 48) p 0 (λ i lt.
    only_shut (get_or p i 0) (All-get_or (Byte Pattern) p i 0 lt field.bytes) (λ e.
    both_ways (bit r i) (h.2 i) (eq-eqb _ 1 (steps.opens i (omega (arith, field.short)) lt e))))

pub pattern_opens : (p : List ℕ) (r : ℕ) → r ≡ bits p → LawfulPattern r (length p) → AllByRecursion (λ b. b ≡ 48) p → ⊥
pattern_opens p r e h shut =
    let zero : r ≡ 0 = e ∙ shut_none p shut in
    h.2 (λ i. within_below r 0 (omega arith) i (omega arith))

-- the row of a line and that of its gate
pub row_is : (u v p : List ℕ) (g : Gate) → g.from ≡ decimal u → g.to ≡ decimal v → g.pattern.bits ≡ bits p → g.pattern.steps ≡ length p → row_of g ≡ row u v p
row_is u v p g a b c d = λ i. record { from = a i; to = b i; bits = c i; steps = d i }

-- the same for the ends that a line writes
joined_by : (g : Gate) (gs : List Gate) (a b : ℕ) → g.from ≡ a → g.to ≡ b → Decides (repeats g gs) (Joined a b (rows gs))
joined_by g gs a b from to = subst (λ x. Decides (repeats g gs) (Joined x b (rows gs))) from (subst (λ y. Decides (repeats g gs) (Joined g.from y (rows gs))) to (decides_joined g gs))

not_joined : (g : Gate) (gs : List Gate) (a b : ℕ) → g.from ≡ a → g.to ≡ b → (g.from ≡ g.to → ⊥) → repeats g gs ≡ false → (a ≡ b) ⊎ Joined a b (rows gs) → ⊥
not_joined g gs a b from to ends new h =
    elim h [ inl e ↦ ends (from ∙ e ∙ sym to) | inr j ↦ not_from_Decides (repeats g gs) (joined_by g gs a b from to) new j ]

-- a gate that fits breaks no rule
pub fits_clean : (n : ℕ) (gs : List Gate) (ts : List ℕ) (g : Gate) (u v p : List ℕ) → g.from ≡ decimal u → g.to ≡ decimal v → (AllByRecursion (λ b. b ≡ 48) p → ⊥) → Fits n gs g → Clean (breaches (Some (record { spots = n; gates = rows gs; traps = ts })) (gate u v p) [])
fits_clean n gs ts g u v p from to opens fits =
    (λ h. omega (arith, fits.0.0), (λ h. omega (arith, fits.0.1), (opens, (not_joined g gs (decimal u) (decimal v) from to fits.1 fits.2, (λ h. omega (arith, fits.3, length_rows gs), tt)))))

-- why a draft refuses a gate is the first rule that its line breaks
pub cause_told : (n : ℕ) (gs : List Gate) (ts : List ℕ) (g : Gate) (u v p : List ℕ) (at : ℕ) (why : GateRefusal) → g.from ≡ decimal u → g.to ≡ decimal v → decimal u < n → decimal v < n → (AllByRecursion (λ b. b ≡ 48) p → ⊥) → Cause n gs g why → TurnedDown (record { spots = n; gates = rows gs; traps = ts }) at (gate u v p) (told (gate_refusal why at))
cause_told n gs ts g u v p at OffBoard from to a b opens h = absurd (h (omega arith, omega arith))
cause_told n gs ts g u v p at EqualEnds from to a b opens h =
    inr (λ k. omega arith, inr (λ k. omega arith, inr (opens, inl (inl (sym from ∙ h.1 ∙ to), ap (board_rule 8) (sym (add-zero at))))))
cause_told n gs ts g u v p at RepeatedPair from to a b opens h =
    inr (λ k. omega arith, inr (λ k. omega arith, inr (opens, inl (inr ((joined_by g gs (decimal u) (decimal v) from to).0 h.2), ap (board_rule 8) (sym (add-zero at))))))
cause_told n gs ts g u v p at TooMany from to a b opens h =
    inr (λ k. omega arith, inr (λ k. omega arith, inr (opens, inr (not_joined g gs (decimal u) (decimal v) from to h.1 h.2, inl (omega (arith, h.3, length_rows gs), ap (board_rule 9) (sym (add-zero at)))))))
cause_told n gs ts g u v p at NoMemory from to a b opens h = (fits_clean n gs ts g u v p from to opens h, tt)

-- a trap on a spot that has none breaks no rule
pub trap_clean : (n : ℕ) (rs : List Row) (ts : List ℕ) (v : List ℕ) (w : ℕ) → w ≡ decimal v → w < n → AllWithin (λ x. eqb x w ≡ false) ts 0 (length ts) → Clean (breaches (Some (record { spots = n; gates = rs; traps = ts })) (trap v) [])
trap_clean n rs ts v w is below new =
    (λ h. omega arith, (λ has. false≢true (sym (new has.0 0 (omega arith) has.1) ∙ eq-eqb (get_or ts has.0 0) w (has.2 0 ∙ sym is)), tt))

-- what a draft answers for a gate, and with it the reader for the gate's line
pub gate_taken : (n n' : ℕ) (gs gs' : List Gate) (ts : List ℕ) (g : Gate) (u v p : List ℕ) (at : ℕ) (drafted : Result (Unit {0}) GateRefusal) (r : Result (Unit {0}) Refusal) → g.from ≡ decimal u → g.to ≡ decimal v → row_of g ≡ row u v p → decimal u < n → decimal v < n → (AllByRecursion (λ b. b ≡ 48) p → ⊥) → n' ≡ n → MatchResult drafted (λ _. Fits n gs g × (gs' ≡ gs ++ (g ∷ []))) (λ why. Cause n gs g why × (gs' ≡ gs)) → MatchResult drafted (λ x. r ≡ Ok x) (λ why. r ≡ Err (gate_refusal why at)) → Takes (record { spots = n; gates = rows gs; traps = ts }) at (gate u v p) (record { spots = n'; gates = rows gs'; traps = ts }) r
gate_taken n n' gs gs' ts g u v p at (Ok x) r from to same a b opens spots h e =
    let gates = ap rows h.1 ∙ rows_push gs g ∙ ap (λ d. rows gs ++ (d ∷ [])) same in
    rw e (fits_clean n gs ts g u v p from to opens h.0, λ i. Some (record { spots = spots i; gates = gates i; traps = ts }))
gate_taken n n' gs gs' ts g u v p at (Err why) r from to same a b opens spots h e =
    rw e (cause_told n gs ts g u v p at why from to a b opens h.0)
