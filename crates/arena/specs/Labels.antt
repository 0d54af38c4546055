-- The labelling process of the state digraph: 0 where the runner is caught, and elsewhere, round by round, one more than the least or the greatest label of the moves.
use Rattle.std.specs.Prelude.{◌≡◌, ℕ, zero, suc, ◌<◌, ◌≤◌, min, max, Bool, cond, T, ◌↔◌, List, [], ◌∷◌}
use Rattle.std.proofs.Math.Option.{Option, none, some}
use Rattle.arena.specs.declared.player.Player.{Player}
use Rattle.arena.specs.declared.player.Player.TheVariants.{Pursuer, Runner}
use Rattle.arena.specs.Game.{Rules, caught}
use Rattle.marks.specs.Marks.{never}

-- the lesser of two labels; a label is a number, or none for infinity
abbrev pub lesser : Option ℕ → Option ℕ → Option ℕ
lesser none b = b
lesser (some m) none = some m
lesser (some m) (some n) = some (min m n)

-- the greater of two labels
abbrev pub greater : Option ℕ → Option ℕ → Option ℕ
greater none b = none
greater (some m) none = none
greater (some m) (some n) = some (max m n)

-- the least label of a list of places
abbrev pub least_of : (ℕ → Option ℕ) → List ℕ → Option ℕ
least_of f [] = none
least_of f (x ∷ l) = lesser (f x) (least_of f l)

-- the greatest label of a list of places
abbrev pub greatest_of : (ℕ → Option ℕ) → List ℕ → Option ℕ
greatest_of f [] = some 0
greatest_of f (x ∷ l) = greater (f x) (greatest_of f l)

-- one more than a label
abbrev pub one_more : Option ℕ → Option ℕ
one_more none = none
one_more (some n) = some (suc n)

-- the label that the player wants: the pursuer the least, the runner the greatest
abbrev pub wanted : Player → (ℕ → Option ℕ) → List ℕ → Option ℕ
wanted Pursuer f l = least_of f l
wanted Runner f l = greatest_of f l

-- the label of p after m rounds; it stays 0 where the runner is caught
abbrev pub label : Rules → ℕ → ℕ → Option ℕ
label R zero p = cond (caught R p) (some 0) none
label R (suc m) p = cond (caught R p) (some 0) (one_more (wanted (R.owner p) (λ q. label R m q) (R.moves p)))

-- the label of p is k from round k on, and infinite before
abbrev pub Settles : Rules → ℕ → ℕ → Type 0
Settles R p k = (m : ℕ) → (k ≤ m → label R m p ≡ some k) × (m < k → label R m p ≡ none)

-- the process settles at k exactly where the mark is the count k, and gives no label ever exactly where it is never
pub record Labelled (R : Rules) (D : ℕ → Bool) (μ : ℕ → ℕ) : Type 0 where
  pub count : (p : ℕ) → T (D p) → (k : ℕ) → ((μ p < never) × (μ p ≡ k)) ↔ Settles R p k
  pub endless : (p : ℕ) → T (D p) → (never ≤ μ p) ↔ ((m : ℕ) → label R m p ≡ none)
