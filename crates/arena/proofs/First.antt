-- A first place is one.
use Rattle.std.proofs.Common.{◌≡◌, ℕ, ◌<◌, ◌≤◌, List, get_or, arith}
use Rattle.arena.specs.Bytes.{AllUpTo, FirstAbove}

-- the first place where P fails is one
pub first_once : (P : ℕ → Type 0) (p q : ℕ) → (P p → ⊥) → ((k : ℕ) → k < p → P k) → (P q → ⊥) → ((k : ℕ) → k < q → P k) → p ≡ q
first_once P p q not_p below_p not_q below_q =
    let a : p < q → ⊥ = λ l. not_p (below_q p l) in
    let b : q < p → ⊥ = λ l. not_q (below_p q l) in
    grind arith

-- the first byte above a limit is one
pub first_above_once : (most : ℕ) (bytes : List ℕ) (p q : ℕ) → FirstAbove most bytes p → FirstAbove most bytes q → p ≡ q
first_above_once most bytes p q h k = first_once (λ i. get_or bytes i 0 ≤ most) p q (λ l. omega (arith, h.1)) h.2 (λ l. omega (arith, k.1)) k.2

-- where there is one, not all are up to the limit
pub not_all_up_to : (most : ℕ) (bytes : List ℕ) (p : ℕ) → FirstAbove most bytes p → AllUpTo most bytes → ⊥
not_all_up_to most bytes p h all = omega (arith, h.1, all p h.0)
