use Rattle.std.proofs.Common.{◌≡◌, ℕ, ◌+◌, ◌<◌, List, ◌++◌, length, get_or, sym, ap, ◌∙◌, rules, arith}
use Rattle.std.proofs.lemmas.List.{get_or_append_left, get_or-append-add}
use Rattle.checker.proofs.place.Fitting.obeys_open.Goals as goal

-- the move word of a place stands in the second half
word_at : (marks moves : List ℕ) (n p : ℕ) → length marks ≡ n → get_or (marks ++ moves) (n + p) 0 ≡ get_or moves p 0
word_at marks moves n p e = ap (λ k. get_or (marks ++ moves) (k + p) 0) (sym e) ∙ get_or-append-add marks moves p 0

pub returns-in_default-unwrap : goal.returns-in_default-unwrap
returns-in_default-unwrap g c =
    let fitting = c.args.self.now in
    let marks = fitting.marks.now in
    let moves = fitting.moves.now in
    let mark = get_or_append_left marks moves 0 c.args.place (omega arith) in
    let word = word_at marks moves (g.A.Arena.game fitting.arena.now).size c.args.place fitting.half in
    let inside : c.in-Some.chosen < length marks = search rules in
    let after = get_or_append_left marks moves 0 c.in-Some.chosen inside in
    search rules
