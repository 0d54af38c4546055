-- The game of a board is sound, and numbers and parts are inverse.
use Rattle.std.proofs.Common.{◌≡◌, ℕ, ◌*◌, ◌<◌, ◌≤◌, true, List, map, length, get_or, sym, subst, arith}
use lib.ListN.{length-map}
use Rattle.std.proofs.lemmas.Nat.{mod_below, mul-le}
use Rattle.std.proofs.lemmas.List.{get_or-map}
use Rattle.arena.specs.Sound.{SoundAt, Sound}
use Rattle.board.specs.declared.gate.Gate.{Gate}
use Rattle.board.specs.declared.board.Board.{Board}
use Rattle.board.specs.Boards.{spots_of, period_of, gates_of}
use Rattle.board.specs.Gates.{places, all_join}
use Rattle.gated.specs.Exits.{exits_at}
use Rattle.gated.specs.Games.{game_of}
use Rattle.gated.specs.Laws.{Inverse}
use Rattle.gated.specs.Places.{board_game, next, mover, moved, player, step_of, turn_of, pursuer_of, runner_of}
use Rattle.gated.proofs.Exits.{exits_in, exits_few}
use Rattle.gated.proofs.Numbers.{step_in, turn_in, mover_in, moved_below, number_below, number_of_parts, step_back, turn_back, pursuer_back, runner_back}

-- there is a place
places_pos : (n T : ℕ) → 0 < n → 0 < T → 0 < places n T
places_pos n T some runs =
    let one = mul-le 1 1 (T * 2) n (omega arith) some in
    omega (arith, mul-le 1 1 (T * 2 * n) n (omega arith) some)

module _ (n T : ℕ) (gates : List Gate) (some : 0 < n) (runs : 0 < T) (few : length gates ≤ 256) (join : all_join n gates ≡ true) where
  sound_at : (p : ℕ) → p < places n T → SoundAt (board_game n T gates) p
  sound_at p h =
      let s = player (turn_of n p) in
      let t = step_of n p in
      let c = pursuer_of n p in
      let r = runner_of n p in
      let c_in : c < n = mod_below _ n some in
      let r_in : r < n = mod_below _ n some in
      let spot = mover s c r in
      let xs = exits_at gates t spot in
      let f : ℕ → ℕ = moved n (next T) s t c r in
      let l : length (map f xs) ≡ length xs = length-map xs f in (
        omega (arith, exits_few t spot gates),
        (λ j i.
            let k : j < length xs = omega arith in
            subst (λ (x : ℕ). x < places n T) (sym (get_or-map f xs j 0 0 k))
            (moved_below n T s t c r (get_or xs j 0) runs (step_in n T p some h) c_in r_in (exits_in n t spot gates join (mover_in n s c r c_in r_in) j k))),
        λ z. absurd (omega arith),
      )

pub sound : (b : Board) → Sound (game_of b)
sound b = (
  (places_pos (spots_of b) (period_of b) b.draft.sized.0 b.clock.0, b.small),
  sound_at (spots_of b) (period_of b) (gates_of b) b.draft.sized.0 b.clock.0 b.draft.lawful.0 b.draft.lawful.1,
)

pub inverse : (n T : ℕ) → 0 < n → Inverse n T
inverse n T some = record {
  parts_within = λ p h. record { step = step_in n T p some h; turn = turn_in n p; pursuer = mod_below _ n some; runner = mod_below _ n some };
  number_of_parts = number_of_parts n;
  number_below = λ t s c r w. number_below n t s c r w.turn w.pursuer w.runner T w.step;
  parts_of_number = λ t s c r w. (step_back n t s c r w.turn w.pursuer w.runner, turn_back n t s c r w.turn w.pursuer w.runner, pursuer_back n t s c r w.turn w.pursuer w.runner, runner_back n t s c r w.turn w.pursuer w.runner);
}
