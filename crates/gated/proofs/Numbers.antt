-- A number and its parts are inverse, and the parts of a place of the board are within their bounds.
use Rattle.std.proofs.Common.{◌≡◌, ℕ, ◌+◌, ◌*◌, ◌/◌, ◌%◌, ◌<◌, ◌≤◌, ap, ◌∙◌, mul_comm, arith}
use Rattle.std.proofs.lemmas.Nat.{div-mul-add, mod-mul-add, div_below, mod_below, div-add-mod', mul-add-lt}
use Rattle.arena.specs.declared.player.Player.{Player}
use Rattle.arena.specs.declared.player.Player.TheVariants.{Runner, Pursuer}
use Rattle.board.specs.declared.board.Board.{Board}
use Rattle.board.specs.Boards.{spots_of, period_of}
use Rattle.board.specs.Gates.{places}
use Rattle.gated.specs.declared.parts.Parts.{Parts}
use Rattle.gated.specs.Parted.{OnBoard, Parted}
use Rattle.board.proofs.Limits.{before}
use Rattle.gated.specs.Places.{number, runner_of, pursuer_of, turn_of, step_of, next, mover, moved}

module _ (n t s c r : ℕ) (s-in : s < 2) (c_in : c < n) (r_in : r < n) where
  over : number n t s c r / n ≡ (t * 2 + s) * n + c
  over = div-mul-add ((t * 2 + s) * n + c) n r r_in

  over_two : number n t s c r / n / n ≡ t * 2 + s
  over_two = ap (λ x. x / n) over ∙ div-mul-add (t * 2 + s) n c c_in

  pub runner_back : runner_of n (number n t s c r) ≡ r
  runner_back = mod-mul-add ((t * 2 + s) * n + c) n r r_in

  pub pursuer_back : pursuer_of n (number n t s c r) ≡ c
  pursuer_back = ap (λ x. x % n) over ∙ mod-mul-add (t * 2 + s) n c c_in

  pub turn_back : turn_of n (number n t s c r) ≡ s
  turn_back = ap (λ x. x % 2) over_two ∙ mod-mul-add t 2 s s-in

  pub step_back : step_of n (number n t s c r) ≡ t
  step_back = ap (λ x. x / 2) over_two ∙ div-mul-add t 2 s s-in

  pub number_below : (T : ℕ) → t < T → number n t s c r < places n T
  number_below T h =
      let a : t * 2 + s < T * 2 = omega arith in
      let b : (t * 2 + s) * n + c < T * 2 * n = omega (arith, mul-add-lt (t * 2 + s) n c (T * 2) a c_in, mul_comm n (T * 2)) in
      omega (arith, mul-add-lt ((t * 2 + s) * n + c) n r (T * 2 * n) b r_in, mul_comm n (T * 2 * n))

pub number_of_parts : (n p : ℕ) → number n (step_of n p) (turn_of n p) (pursuer_of n p) (runner_of n p) ≡ p
number_of_parts n p =
    ap (λ x. (x * n + pursuer_of n p) * n + runner_of n p) (div-add-mod' (p / n / n) 2)
    ∙ ap (λ x. x * n + runner_of n p) (div-add-mod' (p / n) n)
    ∙ div-add-mod' p n

pub step_in : (n T p : ℕ) → 0 < n → p < places n T → step_of n p < T
step_in n T p h l = div_below (p / n / n) 2 T (omega arith) (div_below (p / n) n (T * 2) h (div_below p n (T * 2 * n) h l))

pub turn_in : (n p : ℕ) → turn_of n p < 2
turn_in n p = mod_below (p / n / n) 2 (omega arith)

-- the spot of the player to move is one of the two
pub mover_in : (n : ℕ) (s : Player) (c r : ℕ) → c < n → r < n → mover s c r < n
mover_in n Pursuer c r h i = h
mover_in n Runner c r h i = i

-- a move leads to a place
pub moved_below : (n T : ℕ) (s : Player) (t c r e : ℕ) → 0 < T → t < T → c < n → r < n → e < n → moved n (next T) s t c r e < places n T
moved_below n T Pursuer t c r e run h c_in r_in e-in = number_below n t 1 e r (omega arith) e-in r_in T h
moved_below n T Runner t c r e run h c_in r_in e-in = number_below n (next T t) 0 c e (omega arith) c_in e-in T (mod_below (t + 1) T run)

-- no clock is longer than there are places
pub period_small : (n T : ℕ) → 0 < n → places n T ≤ 1048576 → T ≤ 1048576
period_small n T some h = omega (arith, before (T * 2) n 1048576 some (before (T * 2 * n) n 1048576 some h))

-- the parts of a place are on the board
pub on_board : (b : Board) (p : ℕ) (q : Parts) → Parted (spots_of b) (period_of b) p q → OnBoard b q
on_board b p q at = record {
  step = omega (arith, at.step, step_in (spots_of b) (period_of b) p b.draft.sized.0 at.on_board);
  pursuer = rw at.pursuer (mod_below _ (spots_of b) b.draft.sized.0);
  runner = rw at.runner (mod_below _ (spots_of b) b.draft.sized.0);
}
