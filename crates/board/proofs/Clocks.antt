-- Least common multiples.
use Rattle.std.proofs.Common.{◌≡◌, ℕ, zero, suc, ◌+◌, ◌*◌, ◌/◌, ◌%◌, ◌<◌, ◌≤◌, Bool, true, ◌&&◌, eqb, List, [], ◌∷◌, ◌++◌, length, get_or, take, MatchOption, Option, None, Some, sym, refl, ap, ◌∙◌, subst, inl, inr, mod-lt, mul_comm, eq-zero-or-pos, mul-zero, arith}
use native.Mathlib.Nat.{mul-mod_right, mul-mod_left, mod-mod_of_dvd, dvd_of_mod-eq-zero, mod-eq-zero_of_dvd, dvd-mul_right, dvd_trans, le_of_dvd, dvd_antisymm, lt_of_mul-lt-mul_left}
use Rattle.std.proofs.lemmas.List.{take_more}
use Rattle.std.proofs.lemmas.List.Recursion.{and_push}
use Rattle.std.proofs.lemmas.Nat.{div-add-mod', mul-le}
use Rattle.std.proofs.lemmas.Bool.{eqb-true, eq-eqb, and_parts, and_from}
use Rattle.std.proofs.lemmas.Bool.Decides.{Decides-below_and, Decides-eqb}
use Rattle.std.specs.Option.{unwrap_or}
use Rattle.board.specs.declared.gate.Gate.{Gate}
use Rattle.board.specs.Clock.{LeastCommon, divided, Period}

-- the first multiple of a that b divides is the least common one
module _ (a b k : ℕ) (a-pos : 0 < a) (k-pos : 0 < k) (none : (j : ℕ) → 0 < j → j < k → a * j % b ≡ 0 → ⊥) (here : a * k % b ≡ 0) where
  product_pos : 0 < a * k
  product_pos = omega (arith, mul-le 1 1 a k a-pos k-pos)

  module _ (m : ℕ) (m-a : m % a ≡ 0) (m-b : m % b ≡ 0) where
    rest_a : m % (a * k) % a ≡ 0
    rest_a = mod-mod_of_dvd a m (dvd-mul_right a k) ∙ m-a

    rest_b : m % (a * k) % b ≡ 0
    rest_b = mod-mod_of_dvd b m (dvd_of_mod-eq-zero b here) ∙ m-b

    many : m % (a * k) ≡ a * (m % (a * k) / a)
    many = omega (arith, div-add-mod' (m % (a * k)) a, rest_a, mul_comm a (m % (a * k) / a))

    fewer : m % (a * k) / a < k
    fewer = lt_of_mul-lt-mul_left a (omega (arith, many, mod-lt m product_pos))

    divides : m % (a * k) ≡ 0
    divides = elim (eq-zero-or-pos (m % (a * k) / a)) [
      | inl e ↦ many ∙ ap (λ x. a * x) e ∙ mul-zero a
      | inr p ↦ absurd (none (m % (a * k) / a) p fewer (ap (λ x. x % b) (sym many) ∙ rest_b))
    ]

  pub first_common : LeastCommon a b (a * k)
  first_common = record { positive = product_pos; first = mul-mod_right a k; second = here; least = divides }

-- the factor that a search from s on finds, or else b
pub found_common : (a b s : ℕ) → 0 < a → 0 < b → s ≤ 1 → 0 < s → (r : Option ℕ)
    → MatchOption r ((j : ℕ) → s ≤ j → j < b → a * j % b ≡ 0 → ⊥) (λ k. (s ≤ k) × (k < b) × (a * k % b ≡ 0) × ((j : ℕ) → s ≤ j → j < k → a * j % b ≡ 0 → ⊥))
    → LeastCommon a b (a * unwrap_or r b) × (unwrap_or r b ≤ b)
found_common a b s p q one some None none = (first_common a b b p q (λ j i. none j (omega arith)) (mul-mod_left a b), omega arith)
found_common a b s p q one some (Some k) f = (first_common a b k p (omega (arith, f.0)) (λ j i. f.3 j (omega arith)) f.2, omega (arith, f.1))

-- what the lengths divide, they divide in its multiples
divided_up : (T l : ℕ) (xs : List Gate) → divided T xs ≡ true → l % T ≡ 0 → divided l xs ≡ true
divided_up T l [] h i = refl
divided_up T l (x ∷ xs) h i =
    let s = x.pattern.steps in
    let p = and_parts (eqb (T % s) 0) (divided T xs) h in
    let d : l % s ≡ 0 = mod-eq-zero_of_dvd s (dvd_trans s (dvd_of_mod-eq-zero s (eqb-true (T % s) 0 p.0)) (dvd_of_mod-eq-zero T i)) in
    and_from (eqb (l % s) 0) (divided l xs) (eq-eqb (l % s) 0 d) (divided_up T l xs p.1 i)

period_push : (gs : List Gate) (g : Gate) (T l : ℕ) → Period gs T → LeastCommon T g.pattern.steps l → Period (gs ++ (g ∷ [])) l
period_push gs g T l p c =
    let s = g.pattern.steps in (
      c.positive,
      and_push (divided l) (λ x. eqb (l % x.pattern.steps) 0) refl (λ _ _. refl) gs g ∙ and_from (divided l gs) (eqb (l % s) 0) (divided_up T l gs p.1 c.first) (eq-eqb (l % s) 0 c.second),
      λ m d.
          let q = and_parts (divided m gs) (eqb (m % s) 0) (sym (and_push (divided m) (λ x. eqb (m % x.pattern.steps) 0) refl (λ _ _. refl) gs g) ∙ d) in
          c.least m (p.2 m q.0) (eqb-true (m % s) 0 q.1),
    )

pub period_more : (gates : List Gate) (i : ℕ) (g : Gate) (T l : ℕ) → i < length gates → g ≡ get_or gates i g → Period (take i gates) T → LeastCommon T g.pattern.steps l
    → Period (take (i + 1) gates) l
period_more gates i g T l h r p c =
    let e : take (i + 1) gates ≡ take i gates ++ (g ∷ []) = take_more gates i g h ∙ ap (λ x. take i gates ++ (x ∷ [])) (sym r) in
    subst (λ (xs : List Gate). Period xs l) (sym e) (period_push (take i gates) g T l p c)

-- a clock divides another of the same gates, and so is the same
pub period_unique : (gates : List Gate) (T U : ℕ) → Period gates T → Period gates U → T ≡ U
period_unique gates T U p q = dvd_antisymm (dvd_of_mod-eq-zero T (p.2 U q.1)) (dvd_of_mod-eq-zero U (q.2 T p.1))

-- whether each number from 1 to k divides m
abbrev all_divide : ℕ → ℕ → Bool
all_divide m zero = true
all_divide m (suc k) = eqb (m % suc k) 0 && all_divide m k

lengths_divide : (s : ℕ) → 0 < s → s ≤ 32 → 144403552893600 % s ≡ 0
lengths_divide zero p h = absurd (omega arith)
lengths_divide (suc k) p h =
    (Decides-below_and (λ j. eqb (144403552893600 % suc j) 0) (λ j. 144403552893600 % suc j ≡ 0) (all_divide 144403552893600) (λ j. Decides-eqb (144403552893600 % suc j) 0) refl (λ _. refl) 32
    ).0 refl k (omega arith)

all_divided : (gates : List Gate) → divided 144403552893600 gates ≡ true
all_divided [] = refl
all_divided (g ∷ gs) =
    let w = g.pattern.lawful.0 in
    and_from (eqb (144403552893600 % g.pattern.steps) 0) (divided 144403552893600 gs) (eq-eqb (144403552893600 % g.pattern.steps) 0 (lengths_divide g.pattern.steps w.0 w.1)) (all_divided gs)

-- no clock is longer than the least common multiple of the numbers from 1 to 32
pub period_small : (gates : List Gate) (T : ℕ) → Period gates T → T ≤ 144403552893600
period_small gates T p = le_of_dvd (omega arith) (dvd_of_mod-eq-zero T (p.2 144403552893600 (all_divided gates)))
