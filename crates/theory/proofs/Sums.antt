-- Sums over the numbers below n.
use Rattle.std.proofs.Common.{◌≡◌, ℕ, zero, suc, ◌+◌, ◌<◌, ◌≤◌, subst, arith}
use native.Mathlib.Decide.{dec_lt}

-- f 0 + .. + f (n - 1)
unfoldable pub sum : (ℕ → ℕ) → ℕ → ℕ
sum f zero = 0
sum f (suc n) = f n + sum f n

pub sum_le : (f g : ℕ → ℕ) → ((i : ℕ) → f i ≤ g i) → (n : ℕ) → sum f n ≤ sum g n
unfolding sum
sum_le f g h zero = omega arith
sum_le f g h (suc n) = omega (arith, h n, sum_le f g h n)

pub sum_lt : (f g : ℕ → ℕ) → ((i : ℕ) → f i ≤ g i) → (x n : ℕ) → x < n → f x < g x → sum f n < sum g n
unfolding sum
sum_lt f g h x zero l s = absurd (omega arith)
sum_lt f g h x (suc n) l s =
    elim (dec_lt x n) [
      | yes y ↦ omega (arith, h n, sum_lt f g h x n y s)
      | no z ↦ let e : x ≡ n = omega arith in let a : f n < g n = subst (λ (i : ℕ). f i < g i) e s in omega (arith, sum_le f g h n)
    ]

pub sum_bound : (f : ℕ → ℕ) → ((i : ℕ) → f i ≤ 1) → (n : ℕ) → sum f n ≤ n
unfolding sum
sum_bound f h zero = omega arith
sum_bound f h (suc n) = omega (arith, h n, sum_bound f h n)
