-- The tally's fold by what it counts.
use Rattle.std.proofs.Common.{◌≡◌, ℕ, zero, suc, ◌+◌, ◌<◌, ◌≤◌, max, Bool, true, cond, List, [], ◌∷◌, length, get_or, sym, refl, subst, inl, inr, arith}
use Rattle.std.proofs.lemmas.List.Sums.{sum_by-cons}
use Rattle.std.proofs.lemmas.Bool.{cases_lt, cond-true, cond_both}
use Rattle.joining.specs.Rows.{folded}
use Rattle.marks.specs.Marks.{is_capture, is_counted, is_never}
use Rattle.marks.specs.Tallies.{capped, count_of, one_if, Taken, Longest, Tallied, counting}
use Rattle.marks.specs.Unique.{TheOne}
use Rattle.marks.specs.declared.tally.Tally.{Tally}

-- one mark more in front of a count
count_front : (test : ℕ → Bool) (m : ℕ) (ms : List ℕ) (n : ℕ) → n ≡ capped (count_of test ms) → capped (one_if (test m) + n) ≡ capped (count_of test (m ∷ ms))
count_front test m ms n e = rw (e, sum_by-cons (λ x. one_if (test x)) m ms) (omega arith)

-- what one mark adds to the longest count is its own count or 0
own_taken : (m : ℕ) (ms : List ℕ) → Taken (m ∷ ms) (cond (is_counted m) m 0)
own_taken m ms = cond_both (is_counted m) m 0 (Taken (m ∷ ms)) (λ counted. inr (0, omega arith, counted, refl)) (λ _. inl refl)

own_bounds : (m : ℕ) → is_counted m ≡ true → m ≤ cond (is_counted m) m 0
own_bounds m counted = rw (cond-true (is_counted m) m 0 counted) (omega arith)

-- a count of a row is one of the longer row too, one further on
later_taken : (m : ℕ) (ms : List ℕ) (n : ℕ) → Taken ms n → Taken (m ∷ ms) n
later_taken m ms n taken = elim taken [ inl e ↦ inl e | inr (i, lt, counted, e) ↦ inr (suc i, omega arith, counted, e) ]

-- one mark more in front of a longest count
longest_front : (m : ℕ) (ms : List ℕ) (n : ℕ) → Longest ms n → Longest (m ∷ ms) (max (cond (is_counted m) m 0) n)
longest_front m ms n l =
    let own : ℕ = cond (is_counted m) m 0 in
    record {
      bounds = λ i. elim i as (λ i. i < length (m ∷ ms) → is_counted (get_or (m ∷ ms) i 0) ≡ true → get_or (m ∷ ms) i 0 ≤ max own n) [
        | zero ↦ λ _ counted. let h = own_bounds m counted in omega arith
        | suc j ↦ λ lt counted. let h = l.bounds j (omega arith) counted in omega arith
      ];
      taken = elim (cases_lt n own) [
        | inl lt ↦ subst (Taken (m ∷ ms)) (omega arith) (own_taken m ms)
        | inr le ↦ subst (Taken (m ∷ ms)) (omega arith) (later_taken m ms n l.taken)
      ];
    }

folded_tallied : (first : ℕ) (row : List ℕ) → Tallied row (folded counting first row)
folded_tallied first [] =
    record { captures = refl; counts = refl; nevers = refl; greatest = record { bounds = λ i lt. absurd (omega arith); taken = inl refl } }
folded_tallied first (m ∷ ms) =
    let rest = folded_tallied (first + 1) ms in
    record {
      captures = count_front is_capture m ms _ rest.captures;
      counts = count_front is_counted m ms _ rest.counts;
      nevers = count_front is_never m ms _ rest.nevers;
      greatest = longest_front m ms _ rest.greatest;
    }

longest_le : (row : List ℕ) (a b : ℕ) → Longest row a → Longest row b → a ≤ b
longest_le row a b l k =
    elim l.taken [ inl e ↦ omega arith | inr (i, lt, counted, e) ↦ rw e at (k.bounds i lt counted) ]

tallied_same : (row : List ℕ) (s t : Tally) → Tallied row s → Tallied row t → s ≡ t
tallied_same row s t a b =
    let captures : s.capture ≡ t.capture = cc (a.captures, b.captures) in
    let counts : s.counted ≡ t.counted = cc (a.counts, b.counts) in
    let nevers : s.never ≡ t.never = cc (a.nevers, b.nevers) in
    let below = longest_le row s.longest t.longest a.greatest b.greatest in
    let above = longest_le row t.longest s.longest b.greatest a.greatest in
    let longest : s.longest ≡ t.longest = omega arith in
    λ i. record { capture = captures i; counted = counts i; never = nevers i; longest = longest i }

-- the fold by the tally tallies the row
pub tally_tallies : (first : ℕ) (row : List ℕ) (r : Tally) → r ≡ folded counting first row → TheOne (Tallied row) r
tally_tallies first row r e =
    let has = subst (Tallied row) (sym e) (folded_tallied first row) in
    record { has = has; only = λ s is. tallied_same row s r is has }
