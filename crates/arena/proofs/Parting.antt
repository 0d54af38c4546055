-- Starts that part a row of moves.
use Rattle.std.proofs.Common.{◌≡◌, ℕ, ◌+◌, ◌-◌, ◌≤◌, ◌<◌, zero, suc, Bool, true, false, Some, Decides, MatchBool, List, length, get_or, refl, sym, ap, ◌∙◌, add-zero, arith}
use Rattle.std.specs.List.{slice_get, slice_range, IsAllAdjacentAnswer}
use Rattle.std.specs.Ordering.{is_le, nat_cmp}
use Rattle.std.specs.List.Sorted.{IsNonDecreasing}
use Rattle.std.proofs.lemmas.List.Edits.{get_or-between}
use Rattle.std.proofs.lemmas.List.Sorted.{non_decreasing_from_is_sorted}
use Rattle.std.proofs.lemmas.Option.{get_or_from_slice_get, slice_get_within}
use Rattle.arena.specs.Listed.{Parts}

-- no start is past the row's end: d is how many places are left from k on
start_within_from : (n m : ℕ) (starts : List ℕ) → Parts n m starts → (d k : ℕ) → k + d ≡ n → get_or starts k 0 ≤ m
start_within_from n m starts parts zero k e = grind (arith, parts.3)
start_within_from n m starts parts (suc d) k e =
    let here = parts.2 k (omega arith) in
    let rest = start_within_from n m starts parts d (k + 1) (omega arith) in
    omega (arith, here, rest)

-- the next two starts from the place p on bound its moves, a part of the row
pub next_starts : (n m : ℕ) (starts rest : List ℕ) (p : ℕ) → rest ≡ slice_range starts p (length starts) → length rest + p ≡ length starts → 2 ≤ length rest → Parts n m starts
    → (p < n) × (get_or rest 0 0 ≡ get_or starts p 0) × (get_or rest 1 0 ≡ get_or starts (p + 1) 0) × (get_or rest 0 0 ≤ get_or rest 1 0) × (get_or rest 1 0 ≤ m)
next_starts n m starts rest p is long two parts =
    let lt : p < n = omega arith in
    let at = λ (k : ℕ) (l : p + k < length starts). ap (λ xs. get_or xs k 0) is ∙ get_or-between starts p (length starts) k 0 l in
    let first : get_or rest 0 0 ≡ get_or starts p 0 = rw add-zero at (at 0 (omega arith)) in
    let next : get_or rest 1 0 ≡ get_or starts (p + 1) 0 = at 1 (omega arith) in
    let rises = parts.2 p lt in
    let within = start_within_from n m starts parts (n - (p + 1)) (p + 1) (omega arith) in
    (lt, first, next, omega arith, omega arith)

-- starts from 0 up to m part the moves exactly if they are sorted
sorted_parts : (n m : ℕ) (starts : List ℕ) (sorted : Bool) → MatchBool sorted (IsNonDecreasing starts) ((k : ℕ) × (k + 1 < length starts) × ((d : ℕ) → get_or starts (k + 1) d < get_or starts k d)) → length starts ≡ n + 1 → get_or starts 0 0 ≡ 0 → get_or starts n 0 ≡ m → Decides sorted (Parts n m starts)
sorted_parts n m starts true rises len first last = (λ _. (len, first, λ k lt. rises k (k + 1) 0 (omega arith) (omega arith), last), λ _. refl)
sorted_parts n m starts false falls len first last =
    let k = falls.0 in
    (λ e. cc, λ parts. absurd (omega (arith, falls.1, falls.2 0, parts.2 k (omega (arith, falls.1)))))

-- the same, where the first and the last were asked for
pub asked_parts : (n m : ℕ) (starts : List ℕ) (first last : ℕ) (sorted : Bool) → IsAllAdjacentAnswer (λ x y b. is_le (nat_cmp x y) ≡ b) starts sorted → Some first ≡ slice_get starts 0 → Some last ≡ slice_get starts (length starts - 1) → length starts - 1 ≡ n → first ≡ 0 → last ≡ m → Decides sorted (Parts n m starts)
asked_parts n m starts first last sorted h f l e zero_first last_m =
    let long = slice_get_within starts 0 first (sym f) in
    let at_last : slice_get starts n ≡ Some last = cc in
    sorted_parts n m starts sorted (non_decreasing_from_is_sorted starts sorted h) (omega (arith, long)) (omega (arith, get_or_from_slice_get starts 0 first 0 (sym f))) (omega (arith, get_or_from_slice_get starts n last 0 at_last))
