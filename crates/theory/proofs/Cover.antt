-- The local rules lift along a covering.
use Rattle.std.proofs.Common.{◌≡◌, ℕ, suc, ◌<◌, ◌≤◌, Bool, T, List, length, get_or, sym, ap, ◌∙◌, subst, arith}
use lib.ListN.{length-map}
use Rattle.std.proofs.lemmas.List.{get_or-map}
use Rattle.arena.specs.Game.{Rules, degree, move}
use Rattle.marks.specs.Marks.{never}
use Rattle.arena.specs.Claims.{Closed, Claims}
use Rattle.arena.specs.TableRules.{TableRules}
use Rattle.arena.specs.Folds.{Folds}
use Rattle.theory.proofs.Global.{claims}

module _ (R' R : Rules) (φ : ℕ → ℕ) (covers : Folds R' R φ) where
  degrees : (x : ℕ) → degree R (φ x) ≡ degree R' x
  degrees x = ap length (covers.lists x) ∙ length-map (R'.moves x) φ

  moved : (x i : ℕ) → i < degree R' x → move R (φ x) i ≡ φ (move R' x i)
  moved x i h = ap (λ (l : List ℕ). get_or l i 0) (covers.lists x) ∙ get_or-map φ (R'.moves x) i 0 0 h

  module _ (D : ℕ → Bool) (closed : Closed R D) where
    pub closed_up : Closed R' (λ x. D (φ x))
    closed_up x d c i l =
        subst (λ (y : ℕ). T (D y)) (moved x i l) (closed (φ x) d (sym (covers.captures x) ∙ c) i (omega (arith, degrees x)))

    module _ (μ w : ℕ → ℕ) (rules : TableRules R D μ w) where
      pub rules_up : TableRules R' (λ x. D (φ x)) (λ x. μ (φ x)) (λ x. w (φ x))
      rules_up x d = record {
        over = λ c. (rules (φ x) d).over (sym (covers.captures x) ∙ c);
        idle = λ c. (rules (φ x) d).idle (sym (covers.captures x) ∙ c);
        positive = λ c. (rules (φ x) d).positive (sym (covers.captures x) ∙ c);
        named = λ c. let a : w (φ x) < degree R (φ x) = (rules (φ x) d).named (sym (covers.captures x) ∙ c) in omega (arith, degrees x);
        pursuer_count = λ c e n.
            let c' = sym (covers.captures x) ∙ c in
            let l : w (φ x) < degree R (φ x) = (rules (φ x) d).named c' in
            let k = (rules (φ x) d).pursuer_count c' (sym (covers.owners x) ∙ e) n in (
              k.0 ∙ ap (λ (y : ℕ). suc (μ y)) (moved x (w (φ x)) (omega (arith, degrees x))),
              λ i h. subst (λ (y : ℕ). μ (φ x) ≤ suc (μ y)) (moved x i h) (k.1 i (omega (arith, degrees x))),
            );
        runner_count = λ c e n.
            let c' = sym (covers.captures x) ∙ c in
            let l : w (φ x) < degree R (φ x) = (rules (φ x) d).named c' in
            let k = (rules (φ x) d).runner_count c' (sym (covers.owners x) ∙ e) n in (
              k.0 ∙ ap (λ (y : ℕ). suc (μ y)) (moved x (w (φ x)) (omega (arith, degrees x))),
              λ i h. subst (λ (y : ℕ). suc (μ y) ≤ μ (φ x)) (moved x i h) (k.1 i (omega (arith, degrees x))),
            );
        pursuer_never = λ c e n i h.
            subst (λ (y : ℕ). never ≤ μ y) (moved x i h) ((rules (φ x) d).pursuer_never (sym (covers.captures x) ∙ c) (sym (covers.owners x) ∙ e) n i (omega (arith, degrees x)));
        runner_never = λ c e n.
            let c' = sym (covers.captures x) ∙ c in
            let l : w (φ x) < degree R (φ x) = (rules (φ x) d).named c' in
            subst (λ (y : ℕ). never ≤ μ y) (moved x (w (φ x)) (omega (arith, degrees x))) ((rules (φ x) d).runner_never c' (sym (covers.owners x) ∙ e) n);
      }

      pub claims_up : Claims R' (λ x. D (φ x)) (λ x. μ (φ x)) (λ x. w (φ x))
      claims_up = claims R' (λ x. D (φ x)) (λ x. μ (φ x)) (λ x. w (φ x)) closed_up rules_up
