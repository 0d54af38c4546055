-- The moves of the rules of a board, with any clock, are the published ones.
use Rattle.std.proofs.Common.{◌≡◌, ℕ, zero, suc, ◌<◌, true, ◌⊎◌, ◌↔◌, List, map, sym, refl, ap, ◌∙◌, subst, inl, inr, arith}
use Rattle.std.proofs.lemmas.Nat.{mod_below}
use Rattle.arena.specs.Game.{Rules, Step}
use Rattle.arena.specs.declared.player.Player.TheVariants.{Runner, Pursuer}
use Rattle.board.specs.declared.gate.Gate.{Gate}
use Rattle.board.specs.Gates.{all_join}
use Rattle.gated.specs.Exits.{exits_at}
use Rattle.gated.specs.Places.{number, step_of, turn_of, pursuer_of, runner_of, player, moved, moves_by, rules_by}
use Rattle.gated.proofs.Numbers.{runner_back, pursuer_back, turn_back, step_back, number_of_parts, turn_in}
use Rattle.gated.proofs.Exits.{exits_in}
use Rattle.endless.specs.Published.{In, Goes, PursuerMoves, RunnerMoves, PublishedStep}
use Rattle.endless.proofs.Edges.{in_from_get_or, get_or_from_in, in_map, map_in, exit_goes, goes_exit}

zero_or_one : (s : ℕ) → s < 2 → (s ≡ 0) ⊎ (s ≡ 1)
zero_or_one zero h = inl refl
zero_or_one (suc zero) h = inr refl
zero_or_one (suc (suc s)) h = absurd (omega arith)

pub exit_below : (n : ℕ) (gates : List Gate) → all_join n gates ≡ true → (t spot e : ℕ) → spot < n → In e (exits_at gates t spot) → e < n
exit_below n gates join t spot e h i =
    let r = get_or_from_in e (exits_at gates t spot) i in
    omega (arith, r.2, exits_in n t spot gates join h r.0 r.1)

module _ (n : ℕ) (after : ℕ → ℕ) (gates : List Gate) (some : 0 < n) (join : all_join n gates ≡ true) (p q : ℕ) where
  abbrev R : Rules
  R = rules_by n after (exits_at gates)

  abbrev t : ℕ
  t = step_of n p

  abbrev c : ℕ
  c = pursuer_of n p

  abbrev r : ℕ
  r = runner_of n p

  c_in : c < n
  c_in = mod_below _ n some

  r_in : r < n
  r_in = mod_below _ n some

  at_pursuer : turn_of n p ≡ 0 → R.moves p ≡ map (moved n after Pursuer t c r) (exits_at gates t c)
  at_pursuer e = ap (λ s. moves_by n after (exits_at gates) (player s) t c r) e

  at_runner : turn_of n p ≡ 1 → R.moves p ≡ map (moved n after Runner t c r) (exits_at gates t r)
  at_runner e = ap (λ s. moves_by n after (exits_at gates) (player s) t c r) e

  pursuer_to : turn_of n p ≡ 0 → In q (R.moves p) → PursuerMoves n gates p q
  pursuer_to turn h =
      let m = in_map (moved n after Pursuer t c r) q (exits_at gates t c) (subst (λ (xs : List ℕ). In q xs) (at_pursuer turn) h) in
      let e-in : m.0 < n = exit_below n gates join t c m.0 c_in m.1 in
      let one : 1 < 2 = omega arith in
      record {
        turn = turn;
        turn_passes = ap (turn_of n) (sym m.2) ∙ turn_back n t 1 m.0 r one e-in r_in;
        step_kept = ap (step_of n) (sym m.2) ∙ step_back n t 1 m.0 r one e-in r_in;
        runner_kept = ap (runner_of n) (sym m.2) ∙ runner_back n t 1 m.0 r one e-in r_in;
        goes = subst (λ (v : ℕ). Goes gates t c v) (sym (ap (pursuer_of n) (sym m.2) ∙ pursuer_back n t 1 m.0 r one e-in r_in)) (exit_goes gates t c m.0 m.1);
      }

  runner_to : turn_of n p ≡ 1 → In q (R.moves p) → RunnerMoves n after gates p q
  runner_to turn h =
      let m = in_map (moved n after Runner t c r) q (exits_at gates t r) (subst (λ (xs : List ℕ). In q xs) (at_runner turn) h) in
      let e-in : m.0 < n = exit_below n gates join t r m.0 r_in m.1 in
      let two : 0 < 2 = omega arith in
      record {
        turn = turn;
        turn_passes = ap (turn_of n) (sym m.2) ∙ turn_back n (after t) 0 c m.0 two c_in e-in;
        step_on = ap (step_of n) (sym m.2) ∙ step_back n (after t) 0 c m.0 two c_in e-in;
        pursuer_kept = ap (pursuer_of n) (sym m.2) ∙ pursuer_back n (after t) 0 c m.0 two c_in e-in;
        goes = subst (λ (v : ℕ). Goes gates t r v) (sym (ap (runner_of n) (sym m.2) ∙ runner_back n (after t) 0 c m.0 two c_in e-in)) (exit_goes gates t r m.0 m.1);
      }

  to : Step R p q → PublishedStep n after gates p q
  to s =
      let h : In q (R.moves p) = subst (λ (x : ℕ). In x (R.moves p)) (sym s.2) (in_from_get_or (R.moves p) s.0 s.1) in
      elim (zero_or_one (turn_of n p) (turn_in n p)) [ inl e ↦ inl (pursuer_to e h) | inr e ↦ inr (runner_to e h) ]

  -- a place to which an exit leads is reached by a step
  step_by : (f : ℕ → ℕ) (xs : List ℕ) (e : ℕ) → R.moves p ≡ map f xs → In e xs → f e ≡ q → Step R p q
  step_by f xs e m i g = get_or_from_in q (R.moves p) (subst (λ (ys : List ℕ). In q ys) (sym m) (subst (λ (x : ℕ). In x (map f xs)) g (map_in f e xs i)))

  back : PublishedStep n after gates p q → Step R p q
  back (inl m) =
      step_by (moved n after Pursuer t c r) (exits_at gates t c) (pursuer_of n q) (at_pursuer m.turn) (goes_exit gates t c (pursuer_of n q) m.goes)
      (ap (λ x. number n x 1 (pursuer_of n q) r) (sym m.step_kept)
      ∙ ap (λ x. number n (step_of n q) x (pursuer_of n q) r) (sym m.turn_passes)
      ∙ ap (λ x. number n (step_of n q) (turn_of n q) (pursuer_of n q) x) (sym m.runner_kept)
      ∙ number_of_parts n q)
  back (inr m) =
      step_by (moved n after Runner t c r) (exits_at gates t r) (runner_of n q) (at_runner m.turn) (goes_exit gates t r (runner_of n q) m.goes)
      (ap (λ x. number n x 0 c (runner_of n q)) (sym m.step_on)
      ∙ ap (λ x. number n (step_of n q) x c (runner_of n q)) (sym m.turn_passes)
      ∙ ap (λ x. number n (step_of n q) (turn_of n q) x (runner_of n q)) (sym m.pursuer_kept)
      ∙ number_of_parts n q)

  pub published : Step R p q ↔ PublishedStep n after gates p q
  published = (to, back)
