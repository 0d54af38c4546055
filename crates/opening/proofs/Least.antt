-- The least of the greatest marks, one pursuer spot after another.
use Rattle.std.proofs.Common.{◌≡◌, ℕ, ◌+◌, ◌<◌, ◌≤◌, List, sym, subst, arith}
use native.Mathlib.Decide.{dec_lt}
use Rattle.marks.specs.Tallies.{Tallied}
use Rattle.marks.specs.Unique.{TheOne}
use Rattle.opening.specs.declared.start.Opening.{Opening}
use Rattle.opening.specs.Rows.{row, Replies}
use Rattle.opening.specs.Openings.{Starts, OpensAmong}

-- the greatest mark of a row is one
replies_once : (n : ℕ) (marks : List ℕ) (c m k r s : ℕ) → Replies n marks c m r → Replies n marks c k s → m ≡ k
replies_once n marks c m k r s a b = omega (arith, a.best s b.within, b.there, b.best r a.within, a.there)

module _ (n : ℕ) (marks : List ℕ) where
  pub first_start : (o : Opening) → Starts n marks 0 o → OpensAmong 1 n marks o
  first_start o s =
      record {
        within = omega (arith, s.pursuer);
        replies = subst (λ (c : ℕ). Replies n marks c o.mark o.runner) (sym s.pursuer) s.replies;
        least = λ c m r h reply.
            let zero : c ≡ 0 = omega arith in
            let same = replies_once n marks 0 o.mark m o.runner r s.replies (subst (λ (x : ℕ). Replies n marks x m r) zero reply) in
            omega arith;
        earliest = λ c m r h. absurd (omega (arith, s.pursuer));
        tallied = subst (λ (c : ℕ). TheOne (Tallied (row n marks c)) o.tally) (sym s.pursuer) s.tallied;
      }

  module _ (k : ℕ) (best next : Opening) (before : OpensAmong k n marks best) (s : Starts n marks k next) where
    last_is : (c m r : ℕ) → c ≡ k → Replies n marks c m r → next.mark ≡ m
    last_is c m r e reply = replies_once n marks k next.mark m next.runner r s.replies (subst (λ (x : ℕ). Replies n marks x m r) e reply)

    -- the next start is better
    pub next_start : next.mark < best.mark → OpensAmong (k + 1) n marks next
    next_start less =
        record {
          within = omega (arith, s.pursuer);
          replies = subst (λ (c : ℕ). Replies n marks c next.mark next.runner) (sym s.pursuer) s.replies;
          least = λ c m r h reply. elim (dec_lt c k) [
            | yes y ↦ omega (arith, before.least c m r y reply)
            | no z ↦ let same = last_is c m r (omega arith) reply in omega arith
          ];
          earliest = λ c m r h reply e. omega (arith, before.least c m r (omega (arith, s.pursuer)) reply);
          tallied = subst (λ (c : ℕ). TheOne (Tallied (row n marks c)) next.tally) (sym s.pursuer) s.tallied;
        }

    -- it is not
    pub same_start : best.mark ≤ next.mark → OpensAmong (k + 1) n marks best
    same_start most =
        record {
          within = omega (arith, before.within);
          replies = before.replies;
          least = λ c m r h reply. elim (dec_lt c k) [
            | yes y ↦ before.least c m r y reply
            | no z ↦ let same = last_is c m r (omega arith) reply in omega arith
          ];
          earliest = before.earliest;
          tallied = before.tallied;
        }
