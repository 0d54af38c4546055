-- The picks' folds by what they pick, for both orders at once.
use Rattle.std.proofs.Common.{◌≡◌, ℕ, zero, suc, ◌+◌, ◌%◌, ◌^◌, ◌<◌, ◌≤◌, Bool, true, false, cond, List, [], ◌∷◌, length, Option, Some, None, get_or, sym, refl, ap, subst, inl, inr, arith}
use Rattle.std.proofs.lemmas.Bool.{ltb-true, ltb-false, cases_order}
use Rattle.joining.specs.Rows.{folded}
use Rattle.marks.specs.Picks.{Order, Least, Greatest, beats, better, picking, NoWorse, FirstBest, Picked}
use Rattle.marks.specs.Unique.{TheOne}
use Rattle.marks.specs.declared.pick.Entry.{Entry}
use Rattle.marks.specs.declared.pick.Pick.{Pick}

-- ---- both orders

no_worse_self : (order : Order) (m : ℕ) → NoWorse order m m
no_worse_self Least m = omega arith
no_worse_self Greatest m = omega arith

no_worse_chain : (order : Order) (a b c : ℕ) → NoWorse order a b → NoWorse order b c → NoWorse order a c
no_worse_chain Least a b c h k = omega arith
no_worse_chain Greatest a b c h k = omega arith

no_worse_both : (order : Order) (a b : ℕ) → NoWorse order a b → NoWorse order b a → a ≡ b
no_worse_both Least a b h k = omega arith
no_worse_both Greatest a b h k = omega arith

beaten : (order : Order) (a b : ℕ) → beats order a b ≡ true → NoWorse order a b × (b ≡ a → ⊥)
beaten Least a b e = let h = ltb-true a b e in (omega arith, λ same. omega arith)
beaten Greatest a b e = let h = ltb-true b a e in (omega arith, λ same. omega arith)

unbeaten : (order : Order) (a b : ℕ) → beats order a b ≡ false → NoWorse order b a
unbeaten Least a b e = ltb-false a b e
unbeaten Greatest a b e = ltb-false b a e

-- ---- one entry more in front

-- the front entry is picked where no later one beats it
front_best : (order : Order) (m : ℕ) (ms : List ℕ) → ((i : ℕ) → i < length ms → NoWorse order m (get_or ms i 0)) → FirstBest order (m ∷ ms) m 0
front_best order m ms h =
    record {
      within = omega arith;
      there = refl;
      best = λ i. elim i as (λ i. i < length (m ∷ ms) → NoWorse order m (get_or (m ∷ ms) i 0)) [ zero ↦ λ _. no_worse_self order m | suc j ↦ λ lt. h j (omega arith) ];
      earliest = λ i lt. omega arith;
    }

-- a later entry stays the best, one further on, where it beats the front entry
later_best : (order : Order) (m : ℕ) (ms : List ℕ) (n j : ℕ) → FirstBest order ms n j → NoWorse order n m → (m ≡ n → ⊥) → FirstBest order (m ∷ ms) n (suc j)
later_best order m ms n j b worse other =
    record {
      within = let h = b.within in omega arith;
      there = b.there;
      best = λ i. elim i as (λ i. i < length (m ∷ ms) → NoWorse order n (get_or (m ∷ ms) i 0)) [ zero ↦ λ _. worse | suc k ↦ λ lt. b.best k (omega arith) ];
      earliest = λ i. elim i as (λ i. i < suc j → get_or (m ∷ ms) i 0 ≡ n → ⊥) [ zero ↦ λ _. other | suc k ↦ λ lt. b.earliest k (omega arith) ];
    }

-- what is picked after one entry more in front
picked_front : (order : Order) (first m : ℕ) (ms : List ℕ) (rest : Option Entry) → Picked order (first + 1) ms rest → Picked order first (m ∷ ms) (better order (Some (record { mark = m; position = first % 2 ^ 64 })) rest)
picked_front order first m ms None none =
    (0, front_best order m ms (λ i lt. absurd (omega (arith, ap length none))), omega arith)
picked_front order first m ms (Some e) (j, b, at) =
    let n : ℕ = e.mark in
    let own : Option Entry = Some (record { mark = m; position = first % 2 ^ 64 }) in
    let t : Bool = beats order n m in
    let P : Bool → Type 0 = λ v. Picked order first (m ∷ ms) (cond v (Some e) own) in
    let ways : (v : Bool) → t ≡ v → P v = λ v. elim v as (λ v. t ≡ v → P v) [
      | true ↦ λ is. (suc j, later_best order m ms n j b (beaten order n m is).0 (beaten order n m is).1, omega arith)
      | false ↦ λ is. (0, front_best order m ms (λ i lt. no_worse_chain order m n _ (unbeaten order n m is) (b.best i lt)), omega arith)
    ] in
    ways t refl

-- ---- the fold, and that it is the only pick

folded_picked : (W : Type 0) (order : Order) (first : ℕ) (row : List ℕ) → Picked order first row (folded {J = Pick W} (picking order) first row).entry
folded_picked W order first [] = refl
folded_picked W order first (m ∷ ms) = picked_front order first m ms _ (folded_picked W order (first + 1) ms)

first_best_mark : (order : Order) (row : List ℕ) (m n i j : ℕ) → FirstBest order row m i → FirstBest order row n j → m ≡ n
first_best_mark order row m n i j a b =
    no_worse_both order m n (rw b.there at (a.best j b.within)) (rw a.there at (b.best i a.within))

first_best_index : (order : Order) (row : List ℕ) (m i j : ℕ) → FirstBest order row m i → FirstBest order row m j → i ≡ j
first_best_index order row m i j a b =
    elim (cases_order i j) [
      | inl e ↦ e
      | inr (inl lt) ↦ absurd (b.earliest i lt a.there)
      | inr (inr lt) ↦ absurd (a.earliest j lt b.there)
    ]

picked_same : (order : Order) (first : ℕ) (row : List ℕ) (p q : Option Entry) → Picked order first row p → Picked order first row q → p ≡ q
picked_same order first row None None a b = refl
picked_same order first row None (Some e) a (j, b, at) = absurd (let h = b.within in omega (arith, ap length a))
picked_same order first row (Some d) None (i, a, at) b = absurd (let h = a.within in omega (arith, ap length b))
picked_same order first row (Some d) (Some e) (i, a, at) (j, b, at') =
    let marks = first_best_mark order row d.mark e.mark i j a b in
    let indices = first_best_index order row e.mark i j (subst (λ x. FirstBest order row x i) marks a) b in
    let positions : d.position ≡ e.position = cc in
    λ i. Some (record { mark = marks i; position = positions i })

-- ---- for proofs on folds by the picks

-- a fold by the picks of an order tells what is picked from the row
pub fold_picks : {W : Type 0} (order : Order) (first : ℕ) (row : List ℕ) (r : Pick W) → r ≡ folded (picking order) first row → TheOne (Picked order first row) r.entry
fold_picks order first row r e =
    let has = subst (λ x. Picked order first row x.entry) (sym e) (folded_picked _ order first row) in
    record { has = has; only = λ q is. picked_same order first row q r.entry is has }

-- where positions are counted on from 0, the position is the index
pub picked_index : (order : Order) (row : List ℕ) (entry : Entry) → length row ≤ 2 ^ 64 → Picked order 0 row (Some entry) → FirstBest order row entry.mark entry.position
picked_index order row entry short (i, b, at) =
    let h = b.within in
    let same : i ≡ entry.position = omega arith in
    subst (FirstBest order row entry.mark) same b
