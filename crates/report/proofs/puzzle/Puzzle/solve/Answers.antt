use Rattle.std.proofs.Common.{◌≡◌, ℕ, ◌*◌, length, ap, ◌∙◌, subst, arith}
use Rattle.arena.specs.Unfit.{Cause}
use Rattle.board.specs.declared.board.Board.{Board}
use Rattle.board.specs.Boards.{spots_of, period_of, gates_of}
use Rattle.opening.specs.Openings.{Opens}
use Rattle.pursuit.specs.Solved.{trapped_game}
use Rattle.solver.specs.Shown.{shown}
use Rattle.report.specs.Reports.{places_of}
use Rattle.report.proofs.Handed.{of_error, of_value}
use Rattle.report.proofs.Telling.{tallied_of, so_of, solved_of}
use Rattle.report.proofs.Wanting.{never_misfit, only_memory}
use Rattle.report.proofs.puzzle.Puzzle.solve.Goals as goal

pub map_err-requires : goal.map_err-requires
map_err-requires c e is =
    let b = c.args.self.now.arena.board in
    let traps = c.args.self.now.traps.items in
    let places : c.places-places.result ≡ places_of b = c.places-places.ensures ∙ ap (λ (x : Board). places_of x) c.board-board.ensures in
    let long : length c.as_mut_slice.result.now ≡ 2 * places_of b = omega (arith, places, c.as_mut_slice.ensures.len, c.in_ok-table.ensures.len) in
    let told = rw c.as_slice-traps.ensures.value at c.solve_board.ensures.solved in
    only_memory b traps (Cause (trapped_game b traps) (length c.as_mut_slice.result.now)) c.args.self.now.below (never_misfit b traps _ long) e
    (of_error _ _ c.solve_board.result e is told)

pub judge-requires : goal.judge-requires
judge-requires c =
    let b = c.args.self.now.arena.board in
    let traps = c.args.self.now.traps.items in
    let places : c.places-places.result ≡ places_of b = c.places-places.ensures ∙ ap (λ (x : Board). places_of x) c.board-board.ensures in
    let f = c.in_ok-finished.finished in
    let told = of_value _ _ _ c.solve_board.result c.map_err.result f c.in_ok-finished.was c.map_err.ensures.cases (rw c.as_slice-traps.ensures.value at c.solve_board.ensures.solved) in
    let long : length (shown f) ≡ 2 * places_of b = omega (arith, places, told.1, c.as_mut_slice.ensures.len, c.in_ok-table.ensures.len) in
    rw c.words.ensures (so_of b traps _ _ _ long told.2)

pub returns : goal.returns
returns c =
    let b = c.args.self.now.arena.board in
    let same : c.board-board.result.now ≡ b = c.board-board.ensures in
    let places : c.places-places.result ≡ places_of b = c.places-places.ensures ∙ ap (λ (x : Board). places_of x) same in
    let f = c.in_ok-finished.finished in
    let told = of_value _ _ _ c.solve_board.result c.map_err.result f c.in_ok-finished.was c.map_err.ensures.cases (rw c.as_slice-traps.ensures.value at c.solve_board.ensures.solved) in
    let long : length (shown f) ≡ 2 * places_of b = omega (arith, places, told.1, c.as_mut_slice.ensures.len, c.in_ok-table.ensures.len) in
    record {
      spots = c.spots.ensures ∙ ap (λ (x : Board). spots_of x) same;
      gates = ap length c.gates.ensures ∙ ap (λ (x : Board). length (gates_of x)) same;
      period = c.period.ensures ∙ ap (λ (x : Board). period_of x) same;
      places = places;
      table = shown f;
      solved = solved_of b _ _ _ _ _ _ c.rounds.ensures c.looks.ensures told.2;
      tallied = tallied_of (places_of b) (shown f) _ long c.tally.ensures;
      opens = subst (λ (n : ℕ). Opens n (shown f) c.in-Ok.opening) (ap (λ (x : Board). spots_of x) same) c.in-Ok.ensures.1;
    }
