-- The rows of the marks at the start.
use Rattle.std.proofs.Common.{◌≡◌, ℕ, ◌+◌, ◌-◌, ◌*◌, ◌<◌, ◌≤◌, List, length, take, drop, ap, ◌∙◌, mul-le-mul_right, add-mul, arith, length-drop, length-take}
use Rattle.opening.specs.Rows.{row}

-- a row lies within the marks
pub row_within : (n c l : ℕ) → c < n → n * n ≤ l → c * n + n ≤ l
row_within n c l h k = omega (arith, mul-le-mul_right {m = c + 1} {n = n} n (omega arith), add-mul c 1 n)

-- a part of the marks is the row
pub part_row : (n c : ℕ) (marks : List ℕ) → take (c * n + n - c * n) (drop (c * n) marks) ≡ row n marks c
part_row n c marks = ap (λ (k : ℕ). take k (drop (c * n) marks)) (omega arith)

pub row_length : (n c : ℕ) (marks : List ℕ) → c < n → n * n ≤ length marks → length (row n marks c) ≡ n
row_length n c marks h k =
    let within = row_within n c (length marks) h k in
    let rest : n ≤ length (drop (c * n) marks) = omega (arith, length-drop (c * n) marks) in
    length-take n (drop (c * n) marks) ∙ omega arith
