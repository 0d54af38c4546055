-- One round over the places, in place: what is written in the same round is not seen.
use Rattle.std.proofs.Common.{◌≡◌, ℕ, ◌+◌, ◌*◌, ◌<◌, ◌≤◌, min, List, length, set, sym, refl, ◌∙◌, subst, inl, inr, add-one, arith}
use native.Mathlib.Decide.{dec_lt}
use Rattle.arena.specs.Game.{Game, degree}
use Rattle.arena.specs.Sound.{PlacesSound}
use Rattle.marks.specs.Marks.{blank}
use Rattle.rounds.specs.Words.{marks_of, Best, Ready, RoundWords, FinishWords, blanks, looks_of}
use Rattle.rounds.proofs.Positions.{Alike, best_same, ready_same, best_plain}
use Rattle.rounds.proofs.Sweep.{Sweep, sweep_keep, sweep_set, two_sets, two_first}
use Rattle.rounds.proofs.Counts.{weight_blank, weight_other, blanks_same}

-- what a finish has written in the same pass is not seen
pub finish_alike : (g : Game) (sound : PlacesSound g) (p : ℕ) → p < g.size → (W V : List ℕ) → Sweep g (FinishWords g W) p W V → Alike g sound blank W V
finish_alike g sound p lt W V s q l =
    elim (dec_lt q p) [
      | yes y ↦ elim (s.done q y) [
        | inl d ↦ omega (arith, d.0, d.1)
        | inr d ↦ omega (arith, d.1)
      ]
      | no z ↦ omega (arith, s.ahead_marks q (omega arith) l)
    ]

-- a round after the places below p, with so many marked and so many looks
pub record Turn (g : Game) (i p : ℕ) (W V : List ℕ) (m l : ℕ) : Type 0 where
  pub pass : Sweep g (RoundWords g i W) p W V
  pub count : m + blanks p V ≡ blanks p W
  pub looks : l ≡ looks_of g.rules p W
  pub few : l ≤ 65535 * p
  pub most : m ≤ p

module _ (g : Game) (sound : PlacesSound g) (i p : ℕ) (small : i < blank) (lt : p < g.size) (W V : List ℕ) (m l : ℕ) (turn : Turn g i p W V m l) where
  at_place : marks_of V p ≡ marks_of W p
  at_place = turn.pass.ahead_marks p (omega arith) lt

  alike : Alike g sound i W V
  alike q ql =
      elim (dec_lt q p) [
        | yes y ↦ elim (turn.pass.done q y) [
          | inl d ↦ omega (arith, d.0, d.2)
          | inr d ↦ omega (arith, d.1)
        ]
        | no z ↦ omega (arith, turn.pass.ahead_marks q (omega arith) ql)
      ]

  -- the place is not blank, or not ready
  keeps : (marks_of V p ≡ blank → Ready g.rules i V p → ⊥) → Sweep g (RoundWords g i W) (p + 1) W V
  keeps not-ready =
      sweep_keep g (RoundWords g i W) p lt W V turn.pass
      (inr ((λ b r. not-ready (at_place ∙ b) (ready_same g sound i V W (λ q ql. sym (alike q ql)) p lt r)), refl, refl))

  pub turn_skip : (marks_of V p ≡ blank → ⊥) → Turn g i (p + 1) W V m l
  turn_skip n =
      let a : (marks_of W p ≡ blank → ⊥) = λ e. n (at_place ∙ e) in
      let u = weight_other (marks_of V p) 1 n in
      let v = weight_other (marks_of W p) 1 a in
      let d = weight_other (marks_of W p) (degree g.rules p) a in
      record {
        pass = keeps (λ b _. n b);
        count = rw (add-one p) (omega (arith, turn.count, u, v));
        looks = rw (add-one p) (omega (arith, turn.looks, d));
        few = omega (arith, turn.few);
        most = omega (arith, turn.most);
      }

  pub turn_keep : (d : ℕ) → d ≡ degree g.rules p → marks_of V p ≡ blank → (Ready g.rules i V p → ⊥) → Turn g i (p + 1) W V m (l + d)
  turn_keep d de b n =
      let a : marks_of W p ≡ blank = sym at_place ∙ b in
      let u = weight_blank (marks_of V p) 1 b in
      let v = weight_blank (marks_of W p) 1 a in
      let e = weight_blank (marks_of W p) (degree g.rules p) a in
      record {
        pass = keeps (λ _ r. n r);
        count = rw (add-one p) (omega (arith, turn.count, u, v));
        looks = rw (add-one p) (omega (arith, turn.looks, e));
        few = omega (arith, turn.few, (sound p lt).0);
        most = omega (arith, turn.most);
      }

  pub turn_mark : length W ≡ 2 * g.size → (d : ℕ) → d ≡ degree g.rules p → (j : ℕ) → marks_of V p ≡ blank → Ready g.rules i V p → Best g.rules (λ q. min (marks_of V q) i) p j
      → Turn g i (p + 1) W (set (set V p i) (g.size + p) j) (m + 1) (l + d)
  turn_mark fits d de j b r best =
      let U : List ℕ = set (set V p i) (g.size + p) j in
      let lv : length V ≡ 2 * g.size = turn.pass.long ∙ fits in
      let a : marks_of W p ≡ blank = sym at_place ∙ b in
      let ready : Ready g.rules i W p = ready_same g sound i W V alike p lt r in
      let here : marks_of U p ≡ i = two_first V p (g.size + p) i j (omega arith) (omega arith) in
      let u = weight_other (marks_of U p) 1 (λ (e : marks_of U p ≡ blank). omega arith) in
      let v = weight_blank (marks_of W p) 1 a in
      let e = weight_blank (marks_of W p) (degree g.rules p) a in
      let same : blanks p U ≡ blanks p V = blanks_same p V U (λ k h. two_sets V p (g.size + p) i j k (omega arith) (omega arith)) in
      record {
        pass = sweep_set g (RoundWords g i W) p lt W V turn.pass fits i j (inl (a, ready, refl, best_plain g.rules i W p j ready (best_same g sound i W V alike p j lt best)));
        count = rw (add-one p) (omega (arith, turn.count, u, v, same));
        looks = rw (add-one p) (omega (arith, turn.looks, e));
        few = omega (arith, turn.few, (sound p lt).0);
        most = omega (arith, turn.most);
      }

pub turn_at : {g : Game} {i p : ℕ} {W V V' : List ℕ} {m m' l l' : ℕ} → V' ≡ V → m' ≡ m → l' ≡ l → Turn g i p W V m l → Turn g i p W V' m' l'
turn_at {g = g} {i = i} {p = p} {W = W} {V = V} {V' = V'} {m = m} {m' = m'} {l = l} {l' = l'} a b c t =
    subst (λ (x : List ℕ). Turn g i p W x m' l') (sym a) (subst (λ (x : ℕ). Turn g i p W V x l') (sym b) (subst (λ (x : ℕ). Turn g i p W V m x) (sym c) t))
