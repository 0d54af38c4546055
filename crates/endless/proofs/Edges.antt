-- The exits of a spot are itself and the spots that an edge joins it to.
use Rattle.std.proofs.Common.{◌≡◌, ℕ, zero, suc, ◌<◌, Bool, true, false, cond, eqb, ◌⊎◌, List, [], ◌∷◌, ◌++◌, map, length, get_or, sym, refl, ap, ◌∙◌, subst, inl, inr, arith}
use Rattle.std.proofs.lemmas.Bool.{eqb-true, eqb-false}
use Rattle.board.specs.declared.gate.Gate.{Gate}
use Rattle.board.specs.Gates.{is_open}
use Rattle.gated.specs.Exits.{across, far, fars, exits_at}
use Rattle.endless.specs.Published.{In, Between, Edge, Goes}

in_left : {X : Type 0} (x : X) (ys zs : List X) → In x ys → In x (ys ++ zs)
in_left x [] zs h = absurd h
in_left x (y ∷ ys) zs (inl e) = inl e
in_left x (y ∷ ys) zs (inr h) = inr (in_left x ys zs h)

in_right : {X : Type 0} (x : X) (ys zs : List X) → In x zs → In x (ys ++ zs)
in_right x [] zs h = h
in_right x (y ∷ ys) zs h = inr (in_right x ys zs h)

in_cases : {X : Type 0} (x : X) (ys zs : List X) → In x (ys ++ zs) → In x ys ⊎ In x zs
in_cases x [] zs h = inr h
in_cases x (y ∷ ys) zs (inl e) = inl (inl e)
in_cases x (y ∷ ys) zs (inr h) = elim (in_cases x ys zs h) [ inl i ↦ inl (inr i) | inr i ↦ inr i ]

pub in_from_get_or : (xs : List ℕ) (i : ℕ) → i < length xs → In (get_or xs i 0) xs
in_from_get_or [] i h = absurd (omega arith)
in_from_get_or (x ∷ xs) zero h = inl refl
in_from_get_or (x ∷ xs) (suc i) h = inr (in_from_get_or xs i (omega arith))

pub get_or_from_in : (x : ℕ) (xs : List ℕ) → In x xs → (i : ℕ) × (i < length xs) × (x ≡ get_or xs i 0)
get_or_from_in x [] h = absurd h
get_or_from_in x (y ∷ ys) (inl e) = (0, omega arith, sym e)
get_or_from_in x (y ∷ ys) (inr h) =
    let r = get_or_from_in x ys h in
    (suc r.0, omega (arith, r.1), r.2)

pub in_map : (f : ℕ → ℕ) (y : ℕ) (xs : List ℕ) → In y (map f xs) → (x : ℕ) × In x xs × (f x ≡ y)
in_map f y [] h = absurd h
in_map f y (x ∷ xs) (inl e) = (x, inl refl, e)
in_map f y (x ∷ xs) (inr h) =
    let r = in_map f y xs h in
    (r.0, inr r.1, r.2)

pub map_in : (f : ℕ → ℕ) (x : ℕ) (xs : List ℕ) → In x xs → In (f x) (map f xs)
map_in f x [] h = absurd h
map_in f x (y ∷ ys) (inl e) = inl (ap f e)
map_in f x (y ∷ ys) (inr h) = inr (map_in f x ys h)

across_between : (u v : ℕ) (g : Gate) → In v (across u g) → Between g u v
across_between u v g = go (eqb u g.from) (eqb u g.to) refl refl
  where
    go : (x y : Bool) → eqb u g.from ≡ x → eqb u g.to ≡ y → In v (cond x (g.to ∷ []) (cond y (g.from ∷ []) [])) → Between g u v
    go true y e f (inl i) = inl (sym (eqb-true u g.from e), i)
    go true y e f (inr i) = absurd i
    go false true e f (inl i) = inr (i, sym (eqb-true u g.to f))
    go false true e f (inr i) = absurd i
    go false false e f i = absurd i

between_across : (u v : ℕ) (g : Gate) → Between g u v → In v (across u g)
between_across u v g = go (eqb u g.from) (eqb u g.to) refl refl
  where
    go : (x y : Bool) → eqb u g.from ≡ x → eqb u g.to ≡ y → Between g u v → In v (cond x (g.to ∷ []) (cond y (g.from ∷ []) []))
    go true y e f (inl i) = inl i.1
    go true y e f (inr i) = inl (i.1 ∙ eqb-true u g.from e ∙ i.0)
    go false true e f (inl i) = absurd (eqb-false u g.from e (sym i.0))
    go false true e f (inr i) = inl i.0
    go false false e f (inl i) = absurd (eqb-false u g.from e (sym i.0))
    go false false e f (inr i) = absurd (eqb-false u g.to f (sym i.1))

far_edge : (t u v : ℕ) (g : Gate) → In v (far t u g) → (is_open g t ≡ true) × Between g u v
far_edge t u v g = go (is_open g t) refl
  where
    go : (o : Bool) → is_open g t ≡ o → In v (cond o (across u g) []) → (is_open g t ≡ true) × Between g u v
    go true e h = (e, across_between u v g h)
    go false e h = absurd h

edge_far : (t u v : ℕ) (g : Gate) → is_open g t ≡ true → Between g u v → In v (far t u g)
edge_far t u v g e b = subst (λ (o : Bool). In v (cond o (across u g) [])) (sym e) (between_across u v g b)

fars_edge : (gates : List Gate) (t u v : ℕ) → In v (fars t u gates) → Edge gates t u v
fars_edge [] t u v h = absurd h
fars_edge (g ∷ gs) t u v h = elim (in_cases v (far t u g) (fars t u gs) h) [
  | inl i ↦ let e = far_edge t u v g i in (g, inl refl, e.0, e.1)
  | inr i ↦ let e = fars_edge gs t u v i in (e.0, inr e.1, e.2, e.3)
]

edge_fars : (gates : List Gate) (t u v : ℕ) (g : Gate) → In g gates → is_open g t ≡ true → Between g u v → In v (fars t u gates)
edge_fars [] t u v g h o b = absurd h
edge_fars (f ∷ fs) t u v g (inl e) o b =
    in_left v (far t u f) (fars t u fs) (subst (λ (x : Gate). In v (far t u x)) (sym e) (edge_far t u v g o b))
edge_fars (f ∷ fs) t u v g (inr h) o b = in_right v (far t u f) (fars t u fs) (edge_fars fs t u v g h o b)

pub exit_goes : (gates : List Gate) (t u v : ℕ) → In v (exits_at gates t u) → Goes gates t u v
exit_goes gates t u v (inl e) = inl (sym e)
exit_goes gates t u v (inr h) = inr (fars_edge gates t u v h)

pub goes_exit : (gates : List Gate) (t u v : ℕ) → Goes gates t u v → In v (exits_at gates t u)
goes_exit gates t u v (inl e) = inl (sym e)
goes_exit gates t u v (inr e) = inr (edge_fars gates t u v e.0 e.1 e.2 e.3)
