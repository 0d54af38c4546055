-- A factor of a number is at most the number.
use Rattle.std.proofs.Common.{ℕ, ◌*◌, ◌<◌, ◌≤◌, arith}
use Rattle.std.proofs.lemmas.Nat.{mul-le}

-- what stands before a product by a number that is not 0 is at most the product
pub before : (a n m : ℕ) → 0 < n → a * n ≤ m → a ≤ m
before a n m h l = omega (arith, mul-le a 1 a n (omega arith) h)
