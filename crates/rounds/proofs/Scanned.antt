-- What a pick from the row that is seen from a place says of the place.
use Rattle.std.proofs.Common.{◌≡◌, ℕ, ◌<◌, ◌≤◌, min, List, length, Some, None, get_or, sym, refl, ap, ◌∙◌, subst, inl, inr, arith}
use lib.ListN.{length-map}
use Rattle.std.proofs.lemmas.List.{get_or-map}
use Rattle.arena.specs.declared.player.Player.{Player}
use Rattle.arena.specs.declared.player.Player.TheVariants.{Pursuer, Runner}
use Rattle.arena.specs.Game.{Rules, degree, move}
use Rattle.theory.proofs.Plays.{sides, not_both}
use Rattle.marks.specs.Marks.{none}
use Rattle.marks.specs.Picks.{Order, NoWorse, FirstBest, Picked}
use Rattle.marks.specs.declared.pick.Entry.{Entry}
use Rattle.marks.proofs.Picks.{picked_index}
use Rattle.rounds.specs.Scans.{seen_row}
use Rattle.rounds.specs.Words.{FirstPosition, Best, Ready, order_of, marks_of}

module _ (R : Rules) (c : ℕ) (W : List ℕ) (p : ℕ) where
  abbrev seen : ℕ → ℕ
  seen k = min (marks_of W (move R p k)) c

  pub seen_length : length (seen_row R c W p) ≡ degree R p
  seen_length = length-map (R.moves p) (λ q. min (marks_of W q) c)

  pub seen_at : (k : ℕ) → k < degree R p → get_or (seen_row R c W p) k 0 ≡ seen k
  seen_at k l = get_or-map (λ q. min (marks_of W q) c) (R.moves p) k 0 0 l

  -- an entry is picked: its position, and its mark
  pub picked_at : (order : Order) (entry : Entry) → degree R p ≤ 65535 → Picked order 0 (seen_row R c W p) (Some entry)
      → (entry.position < degree R p) × (entry.mark ≡ seen entry.position) × FirstPosition order seen (degree R p) entry.position
  picked_at order entry few picked =
      let m : ℕ = entry.mark in
      let j : ℕ = entry.position in
      let b : FirstBest order (seen_row R c W p) m j = picked_index order (seen_row R c W p) entry (omega (arith, seen_length)) picked in
      let l : j < degree R p = omega (arith, b.within, seen_length) in
      let e : m ≡ seen j = sym b.there ∙ seen_at j l in (
        l,
        e,
        record {
          empty = λ z. absurd (omega arith);
          within = λ _. l;
          best = λ k kl. subst (λ (x : ℕ). NoWorse order x (seen k)) e (subst (λ (y : ℕ). NoWorse order m y) (seen_at k kl) (b.best k (omega (arith, seen_length))));
          earliest = λ _ k kl same. b.earliest k kl (seen_at k (omega arith) ∙ same ∙ sym e);
        },
      )

  -- nothing is picked: there is no move
  pub picked_nothing : (order : Order) → Picked order 0 (seen_row R c W p) None → degree R p ≡ 0
  picked_nothing order e = sym seen_length ∙ ap length e

  pub nowhere : (order : Order) → degree R p ≡ 0 → FirstPosition order seen (degree R p) none
  nowhere order z =
      record {
        empty = λ _. refl;
        within = λ l. absurd (omega arith);
        best = λ k l. absurd (omega arith);
        earliest = λ l. absurd (omega arith);
      }

  -- whether the place is ready, by the mark that is picked
  pub ready_from : (s : Player) → R.owner p ≡ s → (j : ℕ) → j < degree R p → FirstPosition (order_of s) seen (degree R p) j → (seen j < c → Ready R c W p) × (Ready R c W p → seen j < c)
  ready_from Pursuer e j l b = (
    (λ h. inl (e, (j, l, omega arith))),
    (λ r. elim r [ inl r ↦ omega (arith, b.best r.1.0 r.1.1, r.1.2) | inr r ↦ absurd (not_both (R.owner p) e r.0) ]),
  )
  ready_from Runner e j l b = (
    (λ h. inr (e, λ k kl. omega (arith, b.best k kl))),
    (λ r. elim r [ inl r ↦ absurd (not_both (R.owner p) r.0 e) | inr r ↦ omega (arith, r.1 j l) ]),
  )

  pub ready_without : degree R p ≡ 0 → (R.owner p ≡ Runner → Ready R c W p) × (R.owner p ≡ Pursuer → Ready R c W p → ⊥)
  ready_without z = (
    (λ e. inr (e, λ k l. absurd (omega arith))),
    (λ e r. elim r [ inl r ↦ omega (arith, r.1.1) | inr r ↦ not_both (R.owner p) e r.0 ]),
  )

  -- what a scan says: of a place without a move
  pub scan_nothing : (s : Player) → s ≡ R.owner p → Picked (order_of s) 0 (seen_row R c W p) None
      → Best R (λ q. min (marks_of W q) c) p none × (s ≡ Runner → Ready R c W p) × ((s ≡ Runner → ⊥) → Ready R c W p → ⊥)
  scan_nothing s e picked =
      let z : degree R p ≡ 0 = picked_nothing (order_of s) picked in (
        nowhere (order_of (R.owner p)) z,
        (λ r. (ready_without z).0 (sym e ∙ r)),
        (λ n ready. elim (sides s) [ inl q ↦ (ready_without z).1 (sym e ∙ q) ready | inr q ↦ n q ]),
      )

  -- and of one with moves
  pub scan_at : (s : Player) → s ≡ R.owner p → degree R p ≤ 65535 → (entry : Entry) → Picked (order_of s) 0 (seen_row R c W p) (Some entry)
      → (entry.position < degree R p) × Best R (λ q. min (marks_of W q) c) p entry.position × (entry.mark < c → Ready R c W p) × (Ready R c W p → entry.mark < c)
  scan_at s e few entry picked =
      let (l, mark, first) = picked_at (order_of s) entry few picked in
      let b = subst (λ (x : Player). FirstPosition (order_of x) seen (degree R p) entry.position) e first in
      let ready = ready_from (R.owner p) refl entry.position l b in
      (l, b, (λ h. ready.0 (omega arith)), (λ r. omega (arith, ready.1 r)))
