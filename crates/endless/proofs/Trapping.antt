-- The fold keeps the runner's spot, and so the traps.
use Rattle.std.proofs.Common.{◌≡◌, ℕ, Bool, true, false, cond, ◌||◌, eqb, List, sym, refl, ap, ◌∙◌, arith}
use Rattle.std.proofs.lemmas.List.FromFn.{get_or-map-range_with_len}
use Rattle.arena.specs.Folds.{Folds}
use Rattle.board.specs.declared.board.Board.{Board}
use Rattle.board.specs.Boards.{spots_of, period_of}
use Rattle.board.specs.Gates.{places}
use Rattle.gated.specs.Games.{game_of}
use Rattle.gated.specs.Places.{runner_of}
use Rattle.gated.specs.Traps.{is_trap, spot_byte}
use Rattle.endless.specs.Endless.{endless_rules, fold}
use Rattle.endless.specs.Trapped.{on_trap, TellsTraps, by_bytes}
use Rattle.trap.specs.Traps.{caught_too}
use Rattle.endless.proofs.Folding.{folded, runner_same}

byte_back : (b : Bool) → eqb (cond b 1 0) 1 ≡ b
byte_back true = refl
byte_back false = refl

pub bytes_tell : (b : Board) (traps : List ℕ) → TellsTraps b traps (by_bytes b traps)
bytes_tell b traps p h =
    ap (λ y. eqb y 1) (get_or-map-range_with_len (λ q. spot_byte traps (runner_of (spots_of b) q)) 0 (places (spots_of b) (period_of b)) p p 0 h (omega arith))
    ∙ byte_back (on_trap b traps p)

pub traps_fold : (b : Board) (traps : List ℕ) (also : ℕ → Bool) → TellsTraps b traps also
    → Folds (caught_too (endless_rules b) (on_trap b traps)) (caught_too (game_of b).rules also) (fold b)
traps_fold b traps also tells =
    let f = folded b in
    record {
      owners = f.folds.owners;
      captures = λ x.
          ap (λ y. y || on_trap b traps x) (f.folds.captures x)
          ∙ ap (λ y. (game_of b).rules.capture (fold b x) || y) (ap (is_trap traps) (sym (runner_same b x)) ∙ sym (tells (fold b x) (f.below x)));
      lists = f.folds.lists;
    }
