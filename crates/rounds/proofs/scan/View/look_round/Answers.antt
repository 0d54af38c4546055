use Rattle.std.proofs.Common.{rules, ◌≡◌, ℕ, ◌+◌, ◌%◌, ◌^◌, min, List, get_or, sym, ap, ◌∙◌, arith, take_all}
use Rattle.arena.specs.Game.{Game, degree}
use Rattle.arena.proofs.Asked.{target_some, count_known}
use Rattle.joining.specs.Laws.{Laws}
use Rattle.joining.specs.Rows.{folded}
use Rattle.joining.proofs.Folds.{total_next}
use Rattle.marks.specs.Picks.{picking}
use Rattle.marks.proofs.Picks.{fold_picks}
use Rattle.rounds.specs.Scans.{seen_row}
use Rattle.rounds.specs.Words.{marks_of}
use Rattle.rounds.proofs.Scanned.{seen_length, seen_at}
use Rattle.rounds.proofs.scan.View.look_round.Goals as goal

pub loop-position-preserved : goal.loop-position-preserved
loop-position-preserved g c =
    let G : Game = g.A.Arena.game c.args.self.now.arena.now in
    let W : List ℕ = c.args.self.now.table.now in
    let p : ℕ = c.args.self.now.place in
    let i : ℕ = c.loop-position.position in
    let there = target_some G p i _ c.in-Some.ensures in
    let row : List ℕ = seen_row G.rules c.args.self.now.cap W p in
    let mark : c.min-mark.result ≡ get_or row i 0 =
    c.min-mark.ensures ∙ ap (λ (q : ℕ). min (marks_of W q) c.args.self.now.cap) there.1 ∙ sym (seen_at G.rules c.args.self.now.cap W p i there.0) in
    let here : i ≡ (0 + i) % 2 ^ 64 = omega arith in
    let wanted = picking {W = g.row.W.Denot} g.W.Wish.order in
    let laws : Laws wanted = search rules in
    let next = total_next laws 0 row i 0 (omega (arith, there.0, seen_length G.rules c.args.self.now.cap W p)) in
    let one : c.count_as.result ≡ wanted.single (get_or row i 0) ((0 + i) % 2 ^ 64) =
    c.count_as.ensures ∙ ap (λ (m : ℕ). wanted.single m i) mark ∙ ap (wanted.single (get_or row i 0)) here in
    let joined = rw (c.loop-position.invariant.1, one) at c.join-pick.ensures in
    (omega arith, joined ∙ next)

pub returns-clause-entry : goal.returns-clause-entry
returns-clause-entry g c =
    let G : Game = g.A.Arena.game c.args.self.now.arena.now in
    let row : List ℕ = seen_row G.rules c.args.self.now.cap c.args.self.now.table.now c.args.self.now.place in
    let count : c.unwrap_or-count.result ≡ degree G.rules c.args.self.now.place =
    c.unwrap_or-count.ensures ∙ rw c.move_count.ensures (count_known G c.args.self.now.place 0 c.args.self.now.here) in
    let all = take_all c.loop-position.position row (omega (arith, count, seen_length G.rules c.args.self.now.cap c.args.self.now.table.now c.args.self.now.place)) in
    (fold_picks g.W.Wish.order 0 row c.loop-position.pick (c.loop-position.invariant.1 ∙ ap (folded (picking g.W.Wish.order) 0) all)).has
