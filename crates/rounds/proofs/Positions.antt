-- The first best position, of values that are read in another way.
use Rattle.std.proofs.Common.{◌≡◌, ℕ, ◌<◌, ◌≤◌, min, cond, ltb, List, sym, refl, ◌∙◌, subst, inl, inr, arith}
use Rattle.std.proofs.lemmas.Bool.Decides.{nat_tests}
use Rattle.arena.specs.declared.player.Player.{Player}
use Rattle.arena.specs.declared.player.Player.TheVariants.{Pursuer, Runner}
use Rattle.arena.specs.Game.{Game, Rules, degree, move}
use Rattle.arena.specs.Sound.{PlacesSound}
use Rattle.theory.proofs.Plays.{not_both}
use Rattle.marks.specs.Marks.{blank, never}
use Rattle.marks.specs.Picks.{Order, Least, Greatest, NoWorse}
use Rattle.rounds.specs.Words.{FirstPosition, Best, Ready, order_of, marks_of, closed_marks}

-- values that are equal at each position
pub first_same : (order : Order) (f h : ℕ → ℕ) (n j : ℕ) → ((k : ℕ) → k < n → f k ≡ h k) → FirstPosition order f n j → FirstPosition order h n j
first_same order f h n j e w =
    record {
      empty = w.empty;
      within = w.within;
      best = λ k l.
          let a : j < n = w.within (omega arith) in
          subst (λ (x : ℕ). NoWorse order x (h k)) (e j a) (subst (λ (y : ℕ). NoWorse order (f j) y) (e k l) (w.best k l));
      earliest = λ a k l same. w.earliest a k l (e k (omega arith) ∙ same ∙ sym (e j a));
    }

-- values that keep the order
pub first_mapped : (order : Order) (f h : ℕ → ℕ) (n j : ℕ)
    → ((k l : ℕ) → k < n → l < n → f k ≤ f l → h k ≤ h l) → ((k l : ℕ) → k < n → l < n → h k ≡ h l → f k ≡ f l)
    → FirstPosition order f n j → FirstPosition order h n j
first_mapped Least f h n j mono one w =
    record {
      empty = w.empty;
      within = w.within;
      best = λ k l. mono j k (w.within (omega arith)) l (w.best k l);
      earliest = λ a k l same. w.earliest a k l (one k j (omega arith) a same);
    }
first_mapped Greatest f h n j mono one w =
    record {
      empty = w.empty;
      within = w.within;
      best = λ k l. mono k j l (w.within (omega arith)) (w.best k l);
      earliest = λ a k l same. w.earliest a k l (one k j (omega arith) a same);
    }

-- a value below the cap among the least ones: the cap does not matter
least_plain : (f : ℕ → ℕ) (c n j i : ℕ) → i < n → f i < c → FirstPosition Least (λ k. min (f k) c) n j → FirstPosition Least f n j
least_plain f c n j i l h w =
    record {
      empty = w.empty;
      within = w.within;
      best = λ k a. omega (arith, w.best i l, w.best k a);
      earliest = λ a k b same. w.earliest a k b (omega arith);
    }

greatest_plain : (f : ℕ → ℕ) (c n j : ℕ) → ((i : ℕ) → i < n → f i < c) → FirstPosition Greatest (λ k. min (f k) c) n j → FirstPosition Greatest f n j
greatest_plain f c n j h w =
    first_mapped Greatest _ f n j (λ k l a b le. omega (arith, h k a, h l b)) (λ k l a b same. omega arith) w

wanted_plain : (R : Rules) (c : ℕ) (W : List ℕ) (p : ℕ) (s : Player) → R.owner p ≡ s → (j : ℕ) → Ready R c W p
    → FirstPosition (order_of s) (λ k. min (marks_of W (move R p k)) c) (degree R p) j → FirstPosition (order_of s) (λ k. marks_of W (move R p k)) (degree R p) j
wanted_plain R c W p Pursuer e j (inl r) w = least_plain (λ k. marks_of W (move R p k)) c (degree R p) j r.1.0 r.1.1 r.1.2 w
wanted_plain R c W p Pursuer e j (inr r) w = absurd (not_both (R.owner p) e r.0)
wanted_plain R c W p Runner e j (inl r) w = absurd (not_both (R.owner p) r.0 e)
wanted_plain R c W p Runner e j (inr r) w = greatest_plain (λ k. marks_of W (move R p k)) c (degree R p) j r.1 w

-- at a ready place the cap does not matter
pub best_plain : (R : Rules) (c : ℕ) (W : List ℕ) (p j : ℕ) → Ready R c W p → Best R (λ q. min (marks_of W q) c) p j → Best R (marks_of W) p j
best_plain R c W p j r b = wanted_plain R c W p (R.owner p) refl j r b

-- marks capped at blank are in the same order as those that a finish leaves
closed_order : (a b : ℕ) → min a blank ≤ min b blank → cond (ltb a blank) a never ≤ cond (ltb b blank) b never
closed_order a b h = grind (arith, nat_tests)

closed_one : (a b : ℕ) → cond (ltb a blank) a never ≡ cond (ltb b blank) b never → min a blank ≡ min b blank
closed_one a b e = grind (arith, nat_tests)

pub best_closed : (R : Rules) (W : List ℕ) (p j : ℕ) → Best R (λ q. min (marks_of W q) blank) p j → Best R (closed_marks W) p j
best_closed R W p j b =
    first_mapped (order_of (R.owner p)) _ _ (degree R p) j
    (λ k l _ _ h. closed_order (marks_of W (move R p k)) (marks_of W (move R p l)) h)
    (λ k l _ _ e. closed_one (marks_of W (move R p k)) (marks_of W (move R p l)) e)
    b

-- two tables whose marks read alike below a cap
module _ (g : Game) (sound : PlacesSound g) (c : ℕ) where
  abbrev pub Alike : List ℕ → List ℕ → Type 0
  Alike W V = (q : ℕ) → q < g.size → min (marks_of V q) c ≡ min (marks_of W q) c

  pub best_same : (W V : List ℕ) → Alike W V → (p j : ℕ) → p < g.size → Best g.rules (λ q. min (marks_of V q) c) p j → Best g.rules (λ q. min (marks_of W q) c) p j
  best_same W V a p j lt b = first_same (order_of (g.rules.owner p)) _ _ _ j (λ k l. a (move g.rules p k) ((sound p lt).1 k l)) b

  below : (W V : List ℕ) → Alike W V → (q : ℕ) → q < g.size → marks_of V q < c → marks_of W q < c
  below W V a q lt h = omega (arith, a q lt)

  pub ready_same : (W V : List ℕ) → Alike W V → (p : ℕ) → p < g.size → Ready g.rules c V p → Ready g.rules c W p
  ready_same W V a p lt (inl r) = inl (r.0, (r.1.0, r.1.1, below W V a (move g.rules p r.1.0) ((sound p lt).1 r.1.0 r.1.1) r.1.2))
  ready_same W V a p lt (inr r) = inr (r.0, λ k l. below W V a (move g.rules p k) ((sound p lt).1 k l) (r.1 k l))
