-- The steps of building the index.
use Rattle.std.proofs.Common.{Option, Some, None, ◌≡◌, ℕ, zero, suc, ◌+◌, ◌*◌, ◌/◌, ◌%◌, ◌<◌, ◌≤◌, not, List, [], ◌∷◌, ◌++◌, length, filter, sym, refl, ap, ◌∙◌, arith, length-append}
use Rattle.std.specs.List.{slice_get, filter_map, cons_option}
use Rattle.std.specs.Option.{option_to_list}
use Rattle.std.proofs.lemmas.List.Filters.{length-filter_both}
use Rattle.std.proofs.lemmas.List.FromFn.{map-range_with_len_more}
use Rattle.board.specs.declared.gate.Gate.{Gate}
use Rattle.gated.specs.Exits.{far, fars, exits_at, touches}
use Rattle.gated.specs.Index.{row, rows, starts_of, Listed}
use Rattle.gated.proofs.Exits.{exits_few, exits_near, far_by}
use Rattle.gated.proofs.Rows.{row_is, rows_next}

-- the first far end of a gate, if it has one
abbrev pub first_far : ℕ → ℕ → Gate → Option ℕ
first_far t spot g = slice_get (far t spot g) 0

-- an option is the first of its list
pub first_back : (r : Option ℕ) (xs : List ℕ) → option_to_list r ≡ xs → r ≡ slice_get xs 0
first_back None xs e = ap (λ ys. slice_get ys 0) e
first_back (Some x) xs e = ap (λ ys. slice_get ys 0) e

-- the far ends one by one
pub fars_mapped : (t spot : ℕ) (gates : List Gate) → filter_map (first_far t spot) gates ≡ fars t spot gates
fars_mapped t spot [] = refl
fars_mapped t spot (g ∷ gs) =
    ap (cons_option (first_far t spot g)) (fars_mapped t spot gs)
    ∙ far_by (λ xs. cons_option (slice_get xs 0) (fars t spot gs) ≡ xs ++ fars t spot gs) t spot g refl refl refl

rows_few : (T : ℕ) (gates : List Gate) → length gates ≤ 256 → (k : ℕ) → length (rows T gates k) ≤ k * 257
rows_few T gates h zero = omega arith
rows_few T gates h (suc k) =
    omega (arith, length-append (rows T gates k) (row T gates k), rows_few T gates h k, exits_few (k % T) (k / T) gates)

-- how much there is to count
pub listed_few : (T : ℕ) (gates : List Gate) → length gates ≤ 256 → (k : ℕ) (exits starts : List ℕ) → Listed T gates k exits starts → length exits ≤ k * 257
listed_few T gates h k exits starts l = omega (arith, ap length l.0, rows_few T gates h k)

pub near_few : (spot : ℕ) (gates near : List Gate) → near ≡ filter (touches spot) gates → length near ≤ length gates
near_few spot gates near e = omega (arith, ap length e, length-filter_both (touches spot) (λ g. not (touches spot g)) (λ _. refl) gates)

pub row_few : (t spot : ℕ) (near : List Gate) (had exits : List ℕ) → exits ≡ had ++ exits_at near t spot → length exits ≤ length had + (length near + 1)
row_few t spot near had exits e = omega (arith, ap length e, length-append had (exits_at near t spot), exits_few t spot near)

-- one row more, by the gates at the spot
pub listed_more : (T : ℕ) (gates : List Gate) (t spot : ℕ) → t < T → (near : List Gate) → near ≡ filter (touches spot) gates
    → (exits starts exits' starts' : List ℕ) → Listed T gates (spot * T + t) exits starts
    → exits' ≡ exits ++ exits_at near t spot → starts' ≡ starts ++ (length exits' ∷ [])
    → Listed T gates (spot * T + (t + 1)) exits' starts'
listed_more T gates t spot h near is exits starts exits' starts' l e s =
    let k = spot * T + t in
    let on : spot * T + (t + 1) ≡ k + 1 = omega arith in
    let whole_row : exits' ≡ rows T gates (k + 1) =
    e ∙ ap (λ x. x ++ exits_at near t spot) l.0 ∙ ap (λ x. rows T gates k ++ exits_at x t spot) is
    ∙ ap (λ x. rows T gates k ++ x) (exits_near t spot gates ∙ sym (row_is T gates t spot h)) ∙ sym (rows_next T gates k) in (
      whole_row ∙ ap (rows T gates) (sym on),
      s ∙ ap (λ x. x ++ (length exits' ∷ [])) l.1 ∙ ap (λ x. starts_of T gates k ++ (length x ∷ [])) whole_row
          ∙ sym (map-range_with_len_more (λ j. length (rows T gates j)) 0 (k + 1) (k + 1) (omega arith)) ∙ ap (starts_of T gates) (sym on),
    )
