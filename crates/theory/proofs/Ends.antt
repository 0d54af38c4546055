-- Plays, one move longer or shorter at the oldest end.
use Rattle.std.proofs.Common.{◌≡◌, ℕ, suc, false, List, [], ◌∷◌, ◌++◌, length, sym, refl, ap, ◌∙◌, subst, arith, length-append}
use Rattle.arena.specs.declared.player.Player.{Player}
use Rattle.arena.specs.declared.player.Player.TheVariants.{Pursuer}
use Rattle.arena.specs.Game.{Rules, move, Step, caught}
use Rattle.arena.specs.Plays.{Play, made, From, Strategy, Follows, plan}

pub play_first : (R : Rules) (p q : ℕ) (h : List ℕ) → Play R h → From q h → caught R p ≡ false → Step R p q → Play R (h ++ (p ∷ []))
play_first R p q [] pl fr c st = absurd pl
play_first R p q (x ∷ []) pl fr c st = (c, subst (λ (y : ℕ). Step R p y) (sym fr) st, tt)
play_first R p q (y ∷ (x ∷ h)) pl fr c st = (pl.0, pl.1, play_first R p q (x ∷ h) pl.2 fr c st)

pub from_first : (p : ℕ) (h : List ℕ) → From p (h ++ (p ∷ []))
from_first p [] = refl
from_first p (x ∷ []) = refl
from_first p (y ∷ (x ∷ h)) = from_first p (x ∷ h)

-- of a plan, which looks only at the newest place
pub follows_first : (R : Rules) (side : Player) (w : ℕ → ℕ) (p q : ℕ) (h : List ℕ) → From q h → (R.owner p ≡ side → q ≡ move R p (w p)) → Follows R side (plan w) h → Follows R side (plan w) (h ++ (p ∷ []))
follows_first R side w p q [] fr first fo = tt
follows_first R side w p q (x ∷ []) fr first fo = ((λ e. fr ∙ first e), tt)
follows_first R side w p q (y ∷ (x ∷ h)) fr first fo = (fo.0, follows_first R side w p q (x ∷ h) fr first fo.1)

pub made_first : (p x : ℕ) (h : List ℕ) → made ((x ∷ h) ++ (p ∷ [])) ≡ suc (length h)
made_first p x h = omega (arith, length-append h (p ∷ []))

-- x ∷ h without its oldest place
abbrev pub strip : ℕ → List ℕ → List ℕ
strip x [] = []
strip y (x ∷ h) = y ∷ strip x h

pub strip_length : (x : ℕ) (h : List ℕ) → length (strip x h) ≡ length h
strip_length x [] = refl
strip_length y (x ∷ h) = ap suc (strip_length x h)

pub strip_play : (R : Rules) (y x : ℕ) (h : List ℕ) → Play R (y ∷ (x ∷ h)) → Play R (y ∷ strip x h)
strip_play R y x [] pl = tt
strip_play R z y (x ∷ h) pl = (pl.0, pl.1, strip_play R y x h pl.2)

-- the i-th move first, and from then on the plan
abbrev pub first_then : ℕ → (ℕ → ℕ) → Strategy
first_then i w [] = i
first_then i w (x ∷ []) = i
first_then i w (y ∷ (x ∷ h)) = w y

pub strip_follows : (R : Rules) (i : ℕ) (w : ℕ → ℕ) (y x : ℕ) (h : List ℕ) → Follows R Pursuer (first_then i w) (y ∷ (x ∷ h)) → Follows R Pursuer (plan w) (y ∷ strip x h)
strip_follows R i w y x [] fo = tt
strip_follows R i w z y (x ∷ h) fo = (fo.0, strip_follows R i w y x h fo.1)

pub strip_from : (R : Rules) (i : ℕ) (w : ℕ → ℕ) (o : ℕ) → R.owner o ≡ Pursuer → (y x : ℕ) (h : List ℕ) → From o (y ∷ (x ∷ h)) → Follows R Pursuer (first_then i w) (y ∷ (x ∷ h)) → From (move R o i) (y ∷ strip x h)
strip_from R i w o e y x [] fr fo = fo.0 (ap R.owner fr ∙ e) ∙ ap (λ (z : ℕ). move R z i) fr
strip_from R i w o e z y (x ∷ h) fr fo = strip_from R i w o e y x h fr fo.1
