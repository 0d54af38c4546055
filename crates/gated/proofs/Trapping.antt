-- A row of bytes, one for each spot, that comes again and again.
use Rattle.std.proofs.Common.{◌≡◌, ℕ, zero, suc, ◌+◌, ◌*◌, ◌%◌, ◌≤◌, ◌∷◌, ◌++◌, map, sym, refl, ap, ◌∙◌, arith}
use Rattle.std.specs.List.{range_with_len, repeat}
use Rattle.std.proofs.lemmas.List.{map-append}
use Rattle.std.proofs.Math.Nat.{add-mod_left, mod-eq_of_lt}

-- numbers in two parts
range_parts : (a n m : ℕ) → range_with_len a (n + m) ≡ range_with_len a n ++ range_with_len (a + n) m
range_parts a zero m =
    let none : zero + m ≡ m = omega arith in
    let here : a ≡ a + zero = omega arith in
    ap (range_with_len a) none ∙ ap (λ b. range_with_len b m) here
range_parts a (suc n) m =
    let more : suc n + m ≡ suc (n + m) = omega arith in
    let on : a + 1 + n ≡ a + suc n = omega arith in
    ap (range_with_len a) more ∙ ap (λ xs. a ∷ xs) (range_parts (a + 1) n m ∙ ap (λ b. range_with_len (a + 1) n ++ range_with_len b m) on)

module _ (g : ℕ → ℕ) (n : ℕ) where
  -- what is said of a number by its remainder
  abbrev of_rest : ℕ → ℕ
  of_rest p = g (p % n)

  -- a row further on it is the same
  shifted : (a m : ℕ) → map of_rest (range_with_len (n + a) m) ≡ map of_rest (range_with_len a m)
  shifted a zero = refl
  shifted a (suc m) =
      let on : n + a + 1 ≡ n + (a + 1) = omega arith in
      let rest = ap (λ b. map of_rest (range_with_len b m)) on ∙ shifted (a + 1) m in
      λ i. ap g (add-mod_left n a) i ∷ rest i

  -- in the first row it is what is said of the number
  first_row : (a m : ℕ) → a + m ≤ n → map of_rest (range_with_len a m) ≡ map g (range_with_len a m)
  first_row a zero h = refl
  first_row a (suc m) h =
      let rest = first_row (a + 1) m (omega arith) in
      λ i. ap g (mod-eq_of_lt {n = a} {m = n} (omega arith)) i ∷ rest i

  -- so many rows are the first one so many times
  pub rows_repeat : (k : ℕ) → repeat k (map g (range_with_len 0 n)) ≡ map of_rest (range_with_len 0 (k * n))
  rows_repeat zero =
      let none : 0 ≡ 0 * n = omega arith in
      ap (λ m. map of_rest (range_with_len 0 m)) none
  rows_repeat (suc k) =
      let size : suc k * n ≡ n + k * n = omega arith in
      let next : 0 + n ≡ n + 0 = omega arith in
      let front = first_row 0 n (omega arith) in
      let back = ap (λ b. map of_rest (range_with_len b (k * n))) next ∙ shifted 0 (k * n) ∙ sym (rows_repeat k) in
      let whole = ap (λ m. map of_rest (range_with_len 0 m)) size ∙ ap (map of_rest) (range_parts 0 n (k * n)) ∙ map-append of_rest (range_with_len 0 n) (range_with_len (0 + n) (k * n)) in
      sym (whole ∙ (λ i. front i ++ back i))
