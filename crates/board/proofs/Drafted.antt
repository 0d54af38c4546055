-- One gate more keeps a draft lawful.
use Rattle.std.proofs.Common.{◌≡◌, ℕ, ◌<◌, Bool, true, false, cond, not, ◌&&◌, ◌||◌, eqb, List, [], ◌∷◌, ◌++◌, sym, refl, ap, ◌∙◌, subst, arith, length-append}
use Rattle.std.proofs.lemmas.List.Recursion.{and_push, or_push}
use Rattle.std.proofs.lemmas.Bool.Decides.{nat_tests}
use Rattle.std.proofs.lemmas.Bool.{and_parts, and_from, or_parts, or_from}
use Rattle.board.specs.declared.gate.Gate.{Gate}
use Rattle.board.specs.Gates.{same_pair, joins, repeats, all_join, pairs_once, LawfulGates}
use Rattle.board.specs.GateRefused.{Fits}

swapped : (a b c d : ℕ) → ((eqb a c && eqb b d) || (eqb a d && eqb b c)) ≡ ((eqb c a && eqb d b) || (eqb c b && eqb d a))
swapped a b c d = grind (arith, nat_tests)

pairs_once_push : (gs : List Gate) (g : Gate) → pairs_once gs ≡ true → repeats g gs ≡ false → pairs_once (gs ++ (g ∷ [])) ≡ true
pairs_once_push [] g h j = refl
pairs_once_push (x ∷ gs) g h j =
    let p = and_parts (not (repeats x gs)) (pairs_once gs) h in
    let q = or_parts (same_pair g x) (repeats g gs) j in
    let o : repeats x gs ≡ false = let b = repeats x gs in let z = p.0 in grind arith in
    and_from (not (repeats x (gs ++ (g ∷ [])))) (pairs_once (gs ++ (g ∷ [])))
    (ap not (or_push (repeats x) (same_pair x) refl (λ _ _. refl) gs g ∙ or_from (repeats x gs) (same_pair x g) o (swapped x.from x.to g.from g.to ∙ q.0)))
    (pairs_once_push gs g p.1 q.1)

fits_joins : (n : ℕ) (g : Gate) → (g.from < n) → (g.to < n) → (g.from ≡ g.to → ⊥) → joins n g ≡ true
fits_joins n g a b d = grind (arith, nat_tests)

lawful_push : (n : ℕ) (gs : List Gate) (g : Gate) → LawfulGates n gs → Fits n gs g → LawfulGates n (gs ++ (g ∷ []))
lawful_push n gs g l f = (
  omega (arith, length-append gs (g ∷ []), f.3),
  and_push (all_join n) (joins n) refl (λ _ _. refl) gs g ∙ and_from (all_join n gs) (joins n g) l.1 (fits_joins n g f.0.0 f.0.1 f.1),
  pairs_once_push gs g l.2 f.2,
)

-- what a push leaves, done or refused
pub lawful_after : (n : ℕ) (gs : List Gate) (g : Gate) → LawfulGates n gs → Fits n gs g → (b : Bool) (after : List Gate) → after ≡ cond b (gs ++ (g ∷ [])) gs → LawfulGates n after
lawful_after n gs g l f true after e = subst (λ (xs : List Gate). LawfulGates n xs) (sym e) (lawful_push n gs g l f)
lawful_after n gs g l f false after e = subst (λ (xs : List Gate). LawfulGates n xs) (sym e) l
