-- Plays, one move longer at the newest end.
use Rattle.std.proofs.Common.{◌≡◌, ℕ, suc, Bool, true, false, ◌⊎◌, List, [], ◌∷◌, sym, refl, ◌∙◌, subst, inl, inr}
use Rattle.arena.specs.declared.player.Player.{Player}
use Rattle.arena.specs.declared.player.Player.TheVariants.{Pursuer, Runner}
use Rattle.arena.specs.Game.{Rules, move, Step, caught}
use Rattle.arena.specs.Plays.{Play, newest, made, From, Strategy, Follows}

pub sides : (s : Player) → (s ≡ Pursuer) ⊎ (s ≡ Runner)
sides Pursuer = inl refl
sides Runner = inr refl

pub tests : (b : Bool) → (b ≡ true) ⊎ (b ≡ false)
tests true = inl refl
tests false = inr refl

abbrev IsPursuer : Player → Type 0
IsPursuer Pursuer = Unit {0}
IsPursuer Runner = ⊥

abbrev IsTrue : Bool → Type 0
IsTrue true = Unit {0}
IsTrue false = ⊥

pub not_both : (s : Player) → s ≡ Pursuer → s ≡ Runner → ⊥
not_both s p r = subst IsPursuer (sym p ∙ r) tt

pub not_clash : (b : Bool) → b ≡ true → b ≡ false → ⊥
not_clash b t f = subst IsTrue (sym t ∙ f) tt

pub play_more : (R : Rules) (h : List ℕ) (q : ℕ) → Play R h → caught R (newest h) ≡ false → Step R (newest h) q → Play R (q ∷ h)
play_more R [] q pl c st = absurd pl
play_more R (p ∷ h) q pl c st = (c, st, pl)

pub from_more : (o : ℕ) (h : List ℕ) (q : ℕ) → From o h → From o (q ∷ h)
from_more o [] q fr = absurd fr
from_more o (p ∷ h) q fr = fr

pub follows_more : (R : Rules) (side : Player) (s : Strategy) (h : List ℕ) (q : ℕ) → (R.owner (newest h) ≡ side → q ≡ move R (newest h) (s h)) → Follows R side s h → Follows R side s (q ∷ h)
follows_more R side s [] q here fo = tt
follows_more R side s (p ∷ h) q here fo = (here, fo)

pub made_more : (R : Rules) (h : List ℕ) (q : ℕ) → Play R h → made (q ∷ h) ≡ suc (made h)
made_more R [] q pl = absurd pl
made_more R (p ∷ h) q pl = refl
