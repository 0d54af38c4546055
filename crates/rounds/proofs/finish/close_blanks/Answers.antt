use Rattle.std.proofs.Common.{ℕ, ◌+◌, ◌<◌, set, sym, refl, ap, ◌∙◌, inl, inr, arith}
use Rattle.arena.specs.Game.{Game}
use Rattle.marks.specs.Marks.{blank, never}
use Rattle.rounds.specs.Words.{FinishWords}
use Rattle.rounds.proofs.Positions.{best_same, best_closed}
use Rattle.rounds.proofs.Sweep.{sweep_keep, sweep_set, sweep_at}
use Rattle.rounds.proofs.Turn.{finish_alike}
use Rattle.rounds.proofs.finish.close_blanks.Goals as goal
use Rattle.rounds.proofs.finish.close_blanks.Goals.{then-table-place, else-table-place}

pub loop-place-preserved : goal.loop-place-preserved
loop-place-preserved g c =
    let G : Game = g.A.Arena.game c.args.arena.now in
    let p : ℕ = c.loop-place.place in
    let lt : p < G.size = omega arith in
    elim c.if-table-place.branch [
      | then-table-place w ↦
          sweep_at (w.table-is ∙ ap (λ (n : ℕ). set (set c.loop-place.table p never) (n + p) w.scan-seen.result.word) c.size-size.ensures)
          (sweep_set G (FinishWords G c.args.table.now) p lt _ _ c.loop-place.invariant c.requires.fits never w.scan-seen.result.word
          (inl (
            sym (c.loop-place.invariant.ahead_marks p (omega arith) lt) ∙ w.if-table-place.true,
            refl,
            best_closed G.rules _ p _ (best_same G c.requires.sound blank _ _ (finish_alike G c.requires.sound p lt _ _ c.loop-place.invariant) p _ lt w.scan-seen.ensures.word),
          )))
      | else-table-place w ↦
          sweep_at w.table-is
          (sweep_keep G (FinishWords G c.args.table.now) p lt _ _ c.loop-place.invariant (inr ((λ e. w.if-table-place.false (c.loop-place.invariant.ahead_marks p (omega arith) lt ∙ e)), refl, refl)))
    ]
