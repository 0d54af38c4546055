-- Which bits of a number are set, from how large it is.
use Rattle.std.proofs.Common.{◌≡◌, ℕ, suc, ◌/◌, ◌%◌, ◌^◌, ◌<◌, ◌≤◌, true, eqb, ap, inl, inr, pow-suc, arith, pow_mono}
use native.Mathlib.Nat.{div-eq_of_lt, div-eq_of_lt-le}
use Rattle.std.proofs.lemmas.Nat.{leading_top, le-div, pow_pos}
use Rattle.std.proofs.lemmas.Bool.{cases_lt, both_ways}
use Rattle.board.specs.Patterns.{bit, Within, HasNoBit}

-- a number below 2 ^ m has no bit at m or above
pub within_below : (a m : ℕ) → a < 2 ^ m → Within a m
within_below a m h i l =
    let p : 2 ^ m ≤ 2 ^ i = pow_mono l in
    ap (λ q. eqb (q % 2) 1) (div-eq_of_lt {n = a} {m = 2 ^ i} (omega arith))

-- a number of 32 bits from 2 ^ m on has such a bit
pub bit_from : (a m : ℕ) → 0 < a → a < 2 ^ 32 → 2 ^ m ≤ a → (i : ℕ) × (m ≤ i) × (bit a i ≡ true)
bit_from a m p w h =
    let t = leading_top 32 a p w in
    let j = t.0 in
    let one : a / 2 ^ j ≡ 1 = div-eq_of_lt-le (2 ^ j) (omega (arith, t.2)) (omega (arith, t.3, pow-suc 2 j)) in
    elim (cases_lt j m) [
      | inl l ↦ absurd (let q : 2 ^ suc j ≤ 2 ^ m = pow_mono l in omega (arith, t.3))
      | inr l ↦ (j, l, ap (λ q. eqb (q % 2) 1) one)
    ]

-- a number of 32 bits other than 0 has some bit
pub some_bit : (a : ℕ) → 0 < a → a < 2 ^ 32 → HasNoBit a → ⊥
some_bit a p w none =
    let b = bit_from a 0 p w (omega arith) in
    both_ways (bit a b.0) (none b.0) b.2

-- shifted by m, a number leaves nothing exactly if it is below 2 ^ m
pub shifted_out : (a m : ℕ) → a / 2 ^ m ≡ 0 → a < 2 ^ m
shifted_out a m e = elim (cases_lt a (2 ^ m)) [ inl l ↦ l | inr l ↦ absurd (omega (arith, le-div 1 a (2 ^ m) (pow_pos m) (omega arith))) ]

pub shifted_on : (a m : ℕ) → (a / 2 ^ m ≡ 0 → ⊥) → 2 ^ m ≤ a
shifted_on a m d = elim (cases_lt a (2 ^ m)) [ inl l ↦ absurd (d (div-eq_of_lt l)) | inr l ↦ l ]
