-- Where a row stands among the rows.
use Rattle.std.proofs.Common.{vec_items, ◌-◌, ◌≤◌, take, drop, ◌≡◌, ℕ, zero, suc, ◌+◌, ◌*◌, ◌%◌, ◌<◌, ◌⊎◌, List, [], ◌++◌, length, get_or, sym, refl, ap, ◌∙◌, inl, inr, mul_comm, eq-or-lt_of_le, add-one, arith, length-append}
use Rattle.std.proofs.lemmas.List.{append-nil, append_assoc, get_or_read_under}
use Rattle.std.proofs.lemmas.Nat.{div-mul-add, mod-mul-add, mul-add-lt}
use Rattle.std.proofs.lemmas.List.FromFn.{length-map-range_with_len, get_or-map-range_with_len}
use Rattle.std.proofs.Math.Seq.{drop-append_seam, take-append_seam}
use Rattle.board.specs.declared.gate.Gate.{Gate}
use Rattle.gated.specs.declared.gated.Gated.{Gated}
use Rattle.gated.specs.Boarded.{board_of}
use Rattle.board.specs.Boards.{spots_of, period_of, gates_of}
use Rattle.gated.specs.declared.parts.Parts.{Parts}
use Rattle.gated.specs.Parted.{OnBoard, spot_of}
use Rattle.gated.proofs.Numbers.{mover_in}
use Rattle.gated.specs.Exits.{exits_at}
use Rattle.gated.specs.Index.{row, rows}

pub row_is : (T : ℕ) (gates : List Gate) (t spot : ℕ) → t < T → row T gates (spot * T + t) ≡ exits_at gates t spot
row_is T gates t spot h =
    ap (λ x. exits_at gates ((spot * T + t) % T) x) (div-mul-add spot T t h) ∙ ap (λ x. exits_at gates x spot) (mod-mul-add spot T t h)

pub rows_next : (T : ℕ) (gates : List Gate) (k : ℕ) → rows T gates (k + 1) ≡ rows T gates k ++ row T gates k
rows_next T gates k = rw add-one refl

same_or_less : (k m : ℕ) → k < suc m → (k ≡ m) ⊎ (k < m)
same_or_less k m h = eq-or-lt_of_le (omega arith)

rows_split : (T : ℕ) (gates : List Gate) (m k : ℕ) → k < m → (rest : List ℕ) × (rows T gates m ≡ rows T gates k ++ (row T gates k ++ rest))
rows_split T gates zero k h = absurd (omega arith)
rows_split T gates (suc m) k h = elim (same_or_less k m h) [
  | inl e ↦ ([], ap (λ x. rows T gates x ++ row T gates x) (sym e) ∙ ap (λ x. rows T gates k ++ x) (sym (append-nil (row T gates k))))
  | inr l ↦
      let s = rows_split T gates m k l in (
        s.0 ++ row T gates m,
        ap (λ x. x ++ row T gates m) s.1 ∙ append_assoc (rows T gates k) (row T gates k ++ s.0) (row T gates m)
            ∙ ap (λ x. rows T gates k ++ x) (append_assoc (row T gates k) s.0 (row T gates m)),
      )
]

module _ (n T t spot : ℕ) (gates : List Gate) (t-in : t < T) (spot_in : spot < n) where
  row_in : spot * T + t < n * T
  row_in = omega (arith, mul-add-lt spot T t n spot_in t-in, mul_comm n T)

  row_ends : length (rows T gates (spot * T + t + 1)) ≡ length (rows T gates (spot * T + t)) + length (exits_at gates t spot)
  row_ends =
      ap length (rows_next T gates (spot * T + t)) ∙ length-append (rows T gates (spot * T + t)) (row T gates (spot * T + t))
      ∙ ap (λ x. length (rows T gates (spot * T + t)) + length x) (row_is T gates t spot t-in)

  row_stands : (rest : List ℕ) × (rows T gates (n * T) ≡ rows T gates (spot * T + t) ++ (exits_at gates t spot ++ rest))
  row_stands =
      let s = rows_split T gates (n * T) (spot * T + t) row_in in
      (s.0, s.1 ∙ ap (λ x. rows T gates (spot * T + t) ++ (x ++ s.0)) (row_is T gates t spot t-in))

-- what is read of an arena's index: the row of the spot of the player to move, at the clock's step
module _ (a : Gated) (q : Parts) (on : OnBoard (board_of a) q) (spot T : ℕ) (stands : spot ≡ spot_of q) (clock : T ≡ period_of (board_of a)) where
  abbrev n : ℕ
  n = spots_of (board_of a)

  abbrev steps : ℕ
  steps = period_of (board_of a)

  abbrev gates : List Gate
  gates = gates_of (board_of a)

  abbrev exits : List ℕ
  exits = vec_items a.index.exits

  abbrev starts : List ℕ
  starts = vec_items a.index.starts

  abbrev rows_to : ℕ → List ℕ
  rows_to = rows steps gates

  spot_in : spot_of q < n
  spot_in = mover_in n q.turn q.pursuer q.runner on.pursuer on.runner

  at : spot * T + q.step ≡ spot_of q * steps + q.step
  at = ap (λ x. x * T + q.step) stands ∙ ap (λ x. spot_of q * x + q.step) clock

  below : spot * T + q.step < n * steps
  below = omega (arith, at, row_in n steps q.step (spot_of q) gates on.step spot_in)

  many : length starts ≡ n * steps + 1
  many = ap length a.listed.1 ∙ length-map-range_with_len (λ j. length (rows_to j)) 0 (n * steps + 1)

  pub start_in : spot * T + q.step + 1 < length starts
  start_in = omega (arith, many, below)

  start_is : (j x : ℕ) → j < n * steps + 1 → x ≡ get_or starts j x → x ≡ length (rows_to j)
  start_is j x h r =
      get_or_read_under starts j (length starts) x 0 r (omega (arith, many)) refl ∙ ap (λ xs. get_or xs j 0) a.listed.1
      ∙ get_or-map-range_with_len (λ i. length (rows_to i)) 0 (n * steps + 1) j j 0 h (omega arith)

  module _ (x y : ℕ) (r : x ≡ get_or starts (spot * T + q.step) x) (s : y ≡ get_or starts (spot * T + q.step + 1) y) where
    abbrev exits_here : List ℕ
    exits_here = exits_at gates q.step (spot_of q)

    starts_here : x ≡ length (rows_to (spot_of q * steps + q.step))
    starts_here = start_is (spot * T + q.step) x (omega (arith, below)) r ∙ ap (λ j. length (rows_to j)) at

    ends_here : y ≡ x + length exits_here
    ends_here =
        start_is (spot * T + q.step + 1) y (omega (arith, below)) s ∙ ap (λ j. length (rows_to (j + 1))) at
        ∙ row_ends n steps q.step (spot_of q) gates on.step spot_in
        ∙ ap (λ z. z + length exits_here) (sym starts_here)

    pub row_within : (x ≤ y) × (y ≤ length exits)
    row_within =
        let w = row_stands n steps q.step (spot_of q) gates on.step spot_in in
        let e = ap length (a.listed.0 ∙ w.1) ∙ length-append (rows_to (spot_of q * steps + q.step)) (exits_here ++ w.0) in
        (omega (arith, ends_here), omega (arith, ends_here, starts_here, e, length-append exits_here w.0))

    pub row_read : take (y - x) (drop x exits) ≡ exits_here
    row_read =
        let w = row_stands n steps q.step (spot_of q) gates on.step spot_in in
        let long : y - x ≡ length exits_here = omega (arith, ends_here) in
        ap (λ xs. take (y - x) (drop x xs)) (a.listed.0 ∙ w.1)
        ∙ ap (λ z. take (y - x) (drop z (rows_to (spot_of q * steps + q.step) ++ (exits_here ++ w.0)))) starts_here
        ∙ ap (take (y - x)) (drop-append_seam (rows_to (spot_of q * steps + q.step)) (exits_here ++ w.0))
        ∙ ap (λ z. take z (exits_here ++ w.0)) long ∙ take-append_seam exits_here w.0
