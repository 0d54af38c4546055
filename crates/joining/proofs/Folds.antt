-- Folds: that by a pair of joinings, and what the laws give of any.
use Rattle.std.proofs.Common.{◌≡◌, ℕ, ◌+◌, ◌%◌, ◌^◌, ◌<◌, List, [], ◌∷◌, ◌++◌, length, get_or, take, sym, refl, ap, ◌∙◌, arith, length-take-le}
use Rattle.std.proofs.lemmas.List.{append-nil, append_assoc, length-append, take_more}
use Rattle.std.specs.List.{fold, enumerate_from}
use Rattle.joining.specs.Laws.{Laws}
use Rattle.joining.specs.Meaning.{Meaning}
use Rattle.joining.specs.Pairs.{paired, side_by_side}
use Rattle.joining.specs.Rows.{folded, Cut}

-- the fold by a pair of joinings is the pair of both folds
module _ {A B : Type 0} (left : Meaning A) (right : Meaning B) where
  pub folded_parts : (first : ℕ) (row : List ℕ) → folded (side_by_side left right) first row ≡ paired (folded left first row) (folded right first row)
  folded_parts first [] = refl
  folded_parts first (mark ∷ marks) =
      let both = side_by_side left right in
      ap (both.joined (both.single mark (first % 2 ^ 64))) (folded_parts (first + 1) marks)

-- what the laws give
module _ {J : Type 0} {m : Meaning J} (laws : Laws m) where
  abbrev total : ℕ → List ℕ → J
  total = folded m

  -- words can hold every fold
  total_holds : (first : ℕ) (xs : List ℕ) → m.holds (total first xs)
  total_holds first [] = laws.neutral_holds
  total_holds first (x ∷ xs) = laws.joined_holds _ _ (laws.single_holds _ _) (total_holds (first + 1) xs)

  -- only the first position modulo 2 ^ 64 tells
  total_wraps : (a b : ℕ) (xs : List ℕ) → a % 2 ^ 64 ≡ b % 2 ^ 64 → total a xs ≡ total b xs
  total_wraps a b [] e = refl
  total_wraps a b (x ∷ xs) e =
      ap (λ p. m.joined (m.single x p) (total (a + 1) xs)) e ∙ ap (m.joined (m.single x (b % 2 ^ 64))) (total_wraps (a + 1) (b + 1) xs (omega arith))

  -- the law of the cut before positions wrap
  cut_plain : (first : ℕ) (xs ys : List ℕ) → total first (xs ++ ys) ≡ m.joined (total first xs) (total (first + length xs) ys)
  cut_plain first [] ys =
      let here : first ≡ first + length {A = ℕ} [] = omega arith in
      ap (λ p. total p ys) here ∙ sym (laws.left _ (total_holds _ ys))
  cut_plain first (x ∷ xs) ys =
      let on : first + 1 + length xs ≡ first + length (x ∷ xs) = omega arith in
      ap (m.joined (m.single x (first % 2 ^ 64))) (cut_plain (first + 1) xs ys ∙ ap (λ p. m.joined (total (first + 1) xs) (total p ys)) on) ∙ sym (laws.assoc _ _ _)

  -- the law of the cut
  pub total_cut : Cut m
  total_cut first xs ys =
      cut_plain first xs ys ∙ ap (m.joined (total first xs)) (total_wraps (first + length xs) ((first + length xs) % 2 ^ 64) ys (omega arith))

  -- one mark more at the end of a list
  pub total_push : (first : ℕ) (xs : List ℕ) (x : ℕ) → m.joined (total first xs) (m.single x ((first + length xs) % 2 ^ 64)) ≡ total first (xs ++ x ∷ [])
  total_push first xs x =
      sym (cut_plain first xs (x ∷ []) ∙ ap (m.joined (total first xs)) (laws.right _ (laws.single_holds _ _)))

  -- one mark more of a list, as a loop over it takes them
  pub total_next : (first : ℕ) (xs : List ℕ) (i d : ℕ) → i < length xs → m.joined (total first (take i xs)) (m.single (get_or xs i d) ((first + i) % 2 ^ 64)) ≡ total first (take (i + 1) xs)
  total_next first xs i d within =
      let long : length (take i xs) ≡ i = length-take-le i xs (omega arith) in
      ap (λ n. m.joined (total first (take i xs)) (m.single (get_or xs i d) ((first + n) % 2 ^ 64))) (sym long) ∙ total_push first (take i xs) (get_or xs i d) ∙ ap (total first) (sym (take_more xs i d within))

  -- the join on the right of one numbered mark after another
  abbrev pub taking : ℕ → J → ℕ × ℕ → J
  taking first all p = m.joined all (m.single p.1 ((first + p.0) % 2 ^ 64))

  taken_on : (first : ℕ) (xs ys : List ℕ) (all : J) (n : ℕ) → all ≡ total first xs → n ≡ length xs → fold (taking first) all (enumerate_from n ys) ≡ total first (xs ++ ys)
  taken_on first xs [] all n e l = e ∙ ap (total first) (sym (append-nil xs))
  taken_on first xs (y ∷ ys) all n e l =
      let pushed : taking first all (n, y) ≡ total first (xs ++ y ∷ []) = rw (e, l) (total_push first xs y) in
      taken_on first (xs ++ y ∷ []) ys (taking first all (n, y)) (n + 1) pushed (omega (arith, length-append xs (y ∷ []))) ∙ ap (total first) (append_assoc xs (y ∷ []) ys)

  -- a fold from the left over the numbered marks of a row
  pub total_taken : (first : ℕ) (row : List ℕ) (start : J) → start ≡ m.neutral → fold (taking first) start (enumerate_from 0 row) ≡ total first row
  total_taken first row start e = taken_on first [] row start 0 e refl
