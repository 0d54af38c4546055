-- The endless game folds onto the board's.
use Rattle.std.proofs.Common.{◌≡◌, ℕ, zero, suc, ◌+◌, ◌*◌, ◌/◌, ◌%◌, ◌<◌, true, cond, eqb, List, [], ◌∷◌, ◌++◌, map, sym, refl, ap, ◌∙◌, inl, inr, mul_assoc, add-mul, add-one, arith}
use native.Mathlib.Nat.{mod-mod_of_dvd, dvd_of_mod-eq-zero, mod-add-mod, zero-mod}
use Rattle.std.proofs.lemmas.Nat.{mod_below, mod-mul-add, div-add-mod'}
use Rattle.std.proofs.lemmas.Bool.{and_parts, eqb-true}
use Rattle.arena.specs.Folds.{Folds}
use Rattle.arena.specs.declared.player.Player.{Player}
use Rattle.arena.specs.declared.player.Player.TheVariants.{Runner, Pursuer}
use Rattle.board.specs.declared.gate.Gate.{Gate}
use Rattle.board.specs.declared.board.Board.{Board}
use Rattle.board.specs.Boards.{spots_of, period_of, gates_of}
use Rattle.board.specs.Gates.{places, is_open}
use Rattle.board.specs.Patterns.{bit}
use Rattle.board.specs.Clock.{divided}
use Rattle.gated.specs.Exits.{across, far, fars, exits_at}
use Rattle.gated.specs.Games.{game_of}
use Rattle.gated.specs.Places.{number, next, step_of, turn_of, pursuer_of, runner_of, player, mover, moved, moves_by}
use Rattle.gated.proofs.Numbers.{runner_back, pursuer_back, turn_back, step_back, number_below, number_of_parts, turn_in, mover_in}
use Rattle.endless.specs.Published.{In}
use Rattle.endless.specs.Endless.{endless_rules, reached, fold}
use Rattle.endless.specs.Laws.{Folded}
use Rattle.endless.proofs.Publishing.{exit_below}

reached_is : (T : ℕ) → 0 < T → (t : ℕ) → reached T t ≡ t % T
reached_is T h zero = sym (zero-mod T)
reached_is T h (suc t) = ap (λ x. (x + 1) % T) (reached_is T h t) ∙ mod-add-mod t T 1 ∙ ap (λ x. x % T) (add-one t)

-- a gate is open at t as at the rest of t by a multiple of its pattern's length
open_same : (g : Gate) (T t : ℕ) → T % g.pattern.steps ≡ 0 → is_open g (t % T) ≡ is_open g t
open_same g T t h = ap (bit g.pattern.bits) (mod-mod_of_dvd g.pattern.steps t (dvd_of_mod-eq-zero g.pattern.steps h))

fars_same : (gates : List Gate) (T t spot : ℕ) → divided T gates ≡ true → fars (t % T) spot gates ≡ fars t spot gates
fars_same [] T t spot d = refl
fars_same (g ∷ gs) T t spot d =
    let p = and_parts (eqb (T % g.pattern.steps) 0) (divided T gs) d in
    ap (λ o. cond o (across spot g) [] ++ fars (t % T) spot gs) (open_same g T t (eqb-true (T % g.pattern.steps) 0 p.0))
    ∙ ap (λ xs. far t spot g ++ xs) (fars_same gs T t spot p.1)

-- two maps that agree on the elements of a list
map_same : (f g : ℕ → ℕ) (xs : List ℕ) → ((x : ℕ) → In x xs → f x ≡ g x) → map f xs ≡ map g xs
map_same f g [] h = refl
map_same f g (x ∷ xs) h = ap (λ y. y ∷ map f xs) (h x (inl refl)) ∙ ap (λ ys. g x ∷ ys) (map_same f g xs (λ y i. h y (inr i)))

map_twice : (f g : ℕ → ℕ) (xs : List ℕ) → map f (map g xs) ≡ map (λ x. f (g x)) xs
map_twice f g [] = refl
map_twice f g (x ∷ xs) = ap (λ ys. f (g x) ∷ ys) (map_twice f g xs)

module _ (b : Board) where
  abbrev n : ℕ
  n = spots_of b

  abbrev T : ℕ
  T = period_of b

  abbrev gates : List Gate
  gates = gates_of b

  some : 0 < n
  some = b.draft.sized.0

  runs : 0 < T
  runs = b.clock.0

  exits_same : (t spot : ℕ) → exits_at gates (reached T t) spot ≡ exits_at gates t spot
  exits_same t spot = ap (λ x. exits_at gates x spot) (reached_is T runs t) ∙ ap (λ xs. spot ∷ xs) (fars_same gates T t spot b.clock.1)

  -- the fold of a number
  fold_number : (t s c r : ℕ) → s < 2 → c < n → r < n → fold b (number n t s c r) ≡ number n (reached T t) s c r
  fold_number t s c r s-in c_in r_in =
      ap (λ x. number n (reached T x) (turn_of n (number n t s c r)) (pursuer_of n (number n t s c r)) (runner_of n (number n t s c r))) (step_back n t s c r s-in c_in r_in)
      ∙ ap (λ x. number n (reached T t) x (pursuer_of n (number n t s c r)) (runner_of n (number n t s c r))) (turn_back n t s c r s-in c_in r_in)
      ∙ ap (λ x. number n (reached T t) s x (runner_of n (number n t s c r))) (pursuer_back n t s c r s-in c_in r_in)
      ∙ ap (λ x. number n (reached T t) s c x) (runner_back n t s c r s-in c_in r_in)

  -- the fold of a move is the move of the fold
  fold_moved : (s : Player) (t c r e : ℕ) → c < n → r < n → e < n → moved n (next T) s (reached T t) c r e ≡ fold b (moved n (λ u. u + 1) s t c r e)
  fold_moved Pursuer t c r e c_in r_in e-in = sym (fold_number t 1 e r (omega arith) e-in r_in)
  fold_moved Runner t c r e c_in r_in e-in =
      ap (λ y. number n y 0 c e) (ap (reached T) (sym (add-one t))) ∙ sym (fold_number (t + 1) 0 c e (omega arith) c_in e-in)

  module _ (x : ℕ) where
    abbrev t : ℕ
    t = step_of n x

    abbrev s : Player
    s = player (turn_of n x)

    abbrev c : ℕ
    c = pursuer_of n x

    abbrev r : ℕ
    r = runner_of n x

    c_in : c < n
    c_in = mod_below _ n some

    r_in : r < n
    r_in = mod_below _ n some

    turn_same : turn_of n (fold b x) ≡ turn_of n x
    turn_same = turn_back n (reached T t) (turn_of n x) c r (turn_in n x) c_in r_in

    step_same : step_of n (fold b x) ≡ reached T t
    step_same = step_back n (reached T t) (turn_of n x) c r (turn_in n x) c_in r_in

    pursuer_same : pursuer_of n (fold b x) ≡ c
    pursuer_same = pursuer_back n (reached T t) (turn_of n x) c r (turn_in n x) c_in r_in

    pub runner_same : runner_of n (fold b x) ≡ r
    runner_same = runner_back n (reached T t) (turn_of n x) c r (turn_in n x) c_in r_in

    lists_same : (game_of b).rules.moves (fold b x) ≡ map (fold b) ((endless_rules b).moves x)
    lists_same =
        let f = moved n (next T) s (reached T t) c r in
        let g = moved n (λ u. u + 1) s t c r in
        let spot = mover s c r in
        ap (λ y. moves_by n (next T) (exits_at gates) (player y) (step_of n (fold b x)) (pursuer_of n (fold b x)) (runner_of n (fold b x))) turn_same
        ∙ ap (λ y. moves_by n (next T) (exits_at gates) s y (pursuer_of n (fold b x)) (runner_of n (fold b x))) step_same
        ∙ ap (λ y. moves_by n (next T) (exits_at gates) s (reached T t) y (runner_of n (fold b x))) pursuer_same
        ∙ ap (λ y. moves_by n (next T) (exits_at gates) s (reached T t) c y) runner_same
        ∙ ap (map f) (exits_same t spot)
        ∙ map_same f (λ e. fold b (g e)) (exits_at gates t spot)
        (λ e i. fold_moved s t c r e c_in r_in (exit_below n gates b.draft.lawful.1 t spot e (mover_in n s c r c_in r_in) i))
        ∙ sym (map_twice (fold b) g (exits_at gates t spot))

    fold_below : fold b x < places n T
    fold_below = number_below n (reached T t) (turn_of n x) c r (turn_in n x) c_in r_in T (rw (reached_is T runs t) (mod_below t T runs))

    -- whole rounds of the clock stay in front
    shift : (a k y m z : ℕ) → (a * k + y) * m + z ≡ a * (k * m) + (y * m + z)
    shift a k y m z = omega (arith, add-mul (a * k) y m, mul_assoc a k m)

    fold_rest : fold b x ≡ x % places n T
    fold_rest =
        let a = t / T in
        let u = t % T in
        let v = turn_of n x in
        let here : fold b x ≡ number n u v c r = ap (λ y. number n y v c r) (reached_is T runs t) in
        let below : number n u v c r < places n T = number_below n u v c r (turn_in n x) c_in r_in T (mod_below t T runs) in
        let whole : a * places n T + number n u v c r ≡ x =
        sym (shift a (T * 2 * n) ((u * 2 + v) * n + c) n r)
        ∙ ap (λ y. y * n + r) (sym (shift a (T * 2) (u * 2 + v) n c))
        ∙ ap (λ y. (y * n + c) * n + r) (sym (shift a T u 2 v))
        ∙ ap (λ y. number n y v c r) (div-add-mod' t T)
        ∙ number_of_parts n x in
        here ∙ sym (ap (λ y. y % places n T) (sym whole) ∙ mod-mul-add a (places n T) (number n u v c r) below)

  folds : Folds (endless_rules b) (game_of b).rules (fold b)
  folds = record {
    owners = λ x. ap player (sym (turn_same x));
    captures = λ x. ap (λ y. eqb y (runner_of n x)) (sym (pursuer_same x)) ∙ ap (eqb (pursuer_of n (fold b x))) (sym (runner_same x));
    lists = lists_same;
  }

  pub folded : Folded b
  folded = record { folds = folds; below = fold_below; rest = fold_rest; clock_rest = reached_is T runs }
