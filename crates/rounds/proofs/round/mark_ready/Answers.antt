use Rattle.std.proofs.Common.{ℕ, ◌+◌, ◌<◌, set, ap, ◌∙◌, arith}
use Rattle.theory.proofs.Plays.{not_clash}
use Rattle.arena.specs.Game.{Game}
use Rattle.marks.specs.Marks.{blank}
use Rattle.rounds.proofs.Turn.{turn_skip, turn_keep, turn_mark, turn_at}
use Rattle.rounds.proofs.round.mark_ready.Goals as goal
use Rattle.rounds.proofs.round.mark_ready.Goals.{then-table-place+then-seen, then-table-place+else-seen, else-table-place}

pub loop-place-preserved : goal.loop-place-preserved
loop-place-preserved g c =
    let G : Game = g.A.Arena.game c.args.arena.now in
    let p : ℕ = c.loop-place.place in
    let lt : p < G.size = omega arith in
    let small : c.args.round < blank = omega arith in
    elim c.if-table-place.branch [
      | then-table-place+then-seen w ↦
          turn_at (w.table-is ∙ ap (λ (n : ℕ). set (set c.loop-place.table p c.args.round) (n + p) w.scan-seen.result.word) c.size-size.ensures) w.marked-is w.looks-is
          (turn_mark G c.requires.sound _ p small lt _ _ _ _ c.loop-place.invariant c.requires.fits _ w.scan-seen.ensures.looks _ w.if-table-place.true (w.scan-seen.ensures.ready.0 w.if-seen.true) w.scan-seen.ensures.word)
      | then-table-place+else-seen w ↦
          turn_at w.table-is w.marked-is w.looks-is
          (turn_keep G c.requires.sound _ p small lt _ _ _ _ c.loop-place.invariant _ w.scan-seen.ensures.looks w.if-table-place.true (λ r. not_clash _ (w.scan-seen.ensures.ready.1 r) w.if-seen.false))
      | else-table-place w ↦
          turn_at w.table-is w.marked-is w.looks-is
          (turn_skip G c.requires.sound _ p small lt _ _ _ _ c.loop-place.invariant w.if-table-place.false)
    ]
