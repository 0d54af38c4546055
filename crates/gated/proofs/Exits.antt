-- The exits of a spot of the board are spots of the board, and few.
use Rattle.std.proofs.Common.{◌≡◌, ℕ, ◌+◌, ◌<◌, ◌≤◌, true, false, cond, eqb, List, [], ◌∷◌, ◌++◌, length, get_or, filter, sym, refl, ap, ◌∙◌, arith, length-append}
use Rattle.std.specs.List.{AllByRecursion}
use Rattle.std.proofs.ByRecursion.{All-append, All-get_or}
use Rattle.std.proofs.lemmas.Bool.{and_parts, cond_both}
use Rattle.std.proofs.lemmas.Bool.Decides.{nat_tests}
use Rattle.board.specs.declared.gate.Gate.{Gate}
use Rattle.board.specs.Gates.{is_open, joins, all_join}
use Rattle.gated.specs.Exits.{across, far, fars, exits_at, touches}

joins_from : (n : ℕ) (g : Gate) → joins n g ≡ true → g.from < n
joins_from n g h = grind (arith, nat_tests)

joins_to : (n : ℕ) (g : Gate) → joins n g ≡ true → g.to < n
joins_to n g h = grind (arith, nat_tests)

-- what holds of no far end, and of both ends of a gate, holds of its far end from any spot
pub far_by : (P : List ℕ → Type 0) (t spot : ℕ) (g : Gate) → P [] → P (g.to ∷ []) → P (g.from ∷ []) → P (far t spot g)
far_by P t spot g none to from =
    cond_both (is_open g t) (across spot g) [] P
    (λ _. cond_both (eqb spot g.from) (g.to ∷ []) (cond (eqb spot g.to) (g.from ∷ []) []) P (λ _. to)
    (λ _. cond_both (eqb spot g.to) (g.from ∷ []) [] P (λ _. from) (λ _. none)))
    (λ _. none)

fars_in : (n t spot : ℕ) (gates : List Gate) → all_join n gates ≡ true → AllByRecursion (λ e. e < n) (fars t spot gates)
fars_in n t spot [] h = tt
fars_in n t spot (g ∷ gs) h =
    let p = and_parts (joins n g) (all_join n gs) h in
    All-append (λ e. e < n) (far t spot g) (fars t spot gs)
    (far_by (AllByRecursion (λ e. e < n)) t spot g tt (joins_to n g p.0, tt) (joins_from n g p.0, tt))
    (fars_in n t spot gs p.1)

pub exits_in : (n t spot : ℕ) (gates : List Gate) → all_join n gates ≡ true → spot < n
    → (j : ℕ) → j < length (exits_at gates t spot) → get_or (exits_at gates t spot) j 0 < n
exits_in n t spot gates h s j l = All-get_or (λ e. e < n) (exits_at gates t spot) j 0 l (s, fars_in n t spot gates h)

-- so is one that is read of a list of these exits
pub read_below : (n t spot : ℕ) (gates : List Gate) → all_join n gates ≡ true → spot < n
    → (xs : List ℕ) (j to : ℕ) → xs ≡ exits_at gates t spot → j < length xs → to ≡ get_or xs j 0 → to < n
read_below n t spot gates h s xs j to same l is =
    let here : get_or xs j 0 ≡ get_or (exits_at gates t spot) j 0 = ap (λ ys. get_or ys j 0) same in
    omega (arith, exits_in n t spot gates h s j (omega (arith, l, ap length same)), is, here)

fars_few : (t spot : ℕ) (gates : List Gate) → length (fars t spot gates) ≤ length gates
fars_few t spot [] = omega arith
fars_few t spot (g ∷ gs) =
    let one : length (far t spot g) ≤ 1 = far_by (λ xs. length xs ≤ 1) t spot g (omega arith) (omega arith) (omega arith) in
    omega (arith, length-append (far t spot g) (fars t spot gs), fars_few t spot gs)

pub exits_few : (t spot : ℕ) (gates : List Gate) → length (exits_at gates t spot) ≤ length gates + 1
exits_few t spot gates = omega (arith, fars_few t spot gates)

-- gates that do not touch a spot give it no exit
far_none : (t spot : ℕ) (g : Gate) → touches spot g ≡ false → far t spot g ≡ []
far_none t spot g h = grind (arith, nat_tests)

fars_near : (t spot : ℕ) (gates : List Gate) → fars t spot (filter (touches spot) gates) ≡ fars t spot gates
fars_near t spot [] = refl
fars_near t spot (g ∷ gs) =
    let more = fars_near t spot gs in
    cond_both (touches spot g) (g ∷ filter (touches spot) gs) (filter (touches spot) gs) (λ xs. fars t spot xs ≡ far t spot g ++ fars t spot gs)
    (λ _. ap (λ xs. far t spot g ++ xs) more)
    (λ e. more ∙ ap (λ xs. xs ++ fars t spot gs) (sym (far_none t spot g e)))

pub exits_near : (t spot : ℕ) (gates : List Gate) → exits_at (filter (touches spot) gates) t spot ≡ exits_at gates t spot
exits_near t spot gates = ap (λ xs. spot ∷ xs) (fars_near t spot gates)
