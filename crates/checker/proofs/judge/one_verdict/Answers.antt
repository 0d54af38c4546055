use Rattle.std.proofs.Common.{◌≡◌, ℕ, ◌<◌, List, length, Ok, Err, Result, refl, ap, arith}
use Rattle.arena.proofs.Fitting.{misfit, once}
use Rattle.arena.specs.Game.{Game}
use Rattle.checker.specs.Verdicts.{Accepted, Cause, Verdict}
use Rattle.checker.specs.declared.refusal.CheckRefusal.{CheckRefusal}
use Rattle.checker.specs.declared.refusal.CheckRefusal.TheVariants.{Misfit, Fault}
use Rattle.checker.proofs.judge.one_verdict.Goals as goal

refused : (g : Game) (V : List ℕ) (e : CheckRefusal) → Cause g V e → Accepted g V → ⊥
refused g V (Misfit why) cause a = misfit g (length V) why cause a.fits
refused g V (Fault p) cause a = cause.untrue a.so

one_cause : (g : Game) (V : List ℕ) (d e : CheckRefusal) → Cause g V d → Cause g V e → d ≡ e
one_cause g V (Misfit u) (Misfit v) h k = ap Misfit (once g (length V) u v h k)
one_cause g V (Misfit u) (Fault q) h k = absurd (misfit g (length V) u h k.fits)
one_cause g V (Fault p) (Misfit v) h k = absurd (misfit g (length V) v k h.fits)
one_cause g V (Fault p) (Fault q) h k =
    let a : p < q → ⊥ = λ l. h.first.1 (k.first.2 p l) in
    let b : q < p → ⊥ = λ l. k.first.1 (h.first.2 q l) in
    let e : p ≡ q = grind arith in
    ap Fault e

one_verdict : (g : Game) (V : List ℕ) (a b : Result (Unit {0}) CheckRefusal) → Verdict g V a → Verdict g V b → a ≡ b
one_verdict g V (Ok u) (Ok v) h k = refl
one_verdict g V (Ok u) (Err e) h k = absurd (refused g V e k h)
one_verdict g V (Err d) (Ok v) h k = absurd (refused g V d h k)
one_verdict g V (Err d) (Err e) h k = ap Err (one_cause g V d e h k)

pub returns : goal.returns
returns c = one_verdict
