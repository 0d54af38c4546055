-- A level that does not grow holds whatever any level holds.
use Rattle.std.proofs.Common.{◌≡◌, ℕ, zero, suc, ◌<◌, false, ltb, inl, inr, arith, ltb→lt, lt→ltb}
use Rattle.arena.specs.Game.{Game, degree, move, caught}
use Rattle.arena.specs.Claims.{Closed}
use Rattle.arena.specs.Levels.{Level, Nonstop}
use Rattle.arena.specs.Sound.{PlacesSound}
use Rattle.theory.proofs.Plays.{not_clash}
use Rattle.theory.proofs.Levels.{level_mono}

pub sound_closed : (g : Game) → PlacesSound g → Closed g.rules (λ p. ltb p g.size)
sound_closed g s p d c i l = lt→ltb (move g.rules p i) g.size ((s p (ltb→lt p g.size d)).1 i l)

pub sound_moves : (g : Game) → PlacesSound g → (p : ℕ) → p < g.size → caught g.rules p ≡ false → 0 < degree g.rules p
sound_moves g s p lt c = pos (degree g.rules p) (λ z. not_clash (caught g.rules p) ((s p lt).2 z) c)
  where
    pos : (n : ℕ) → (n ≡ 0 → ⊥) → 0 < n
    pos n h = omega arith

pub sound_nonstop : (g : Game) → PlacesSound g → Nonstop g.rules (λ p. ltb p g.size)
sound_nonstop g s p d c = sound_moves g s p (ltb→lt p g.size d) c

module _ (g : Game) (sound : PlacesSound g) (t : ℕ) (stable : (p : ℕ) → p < g.size → Level g.rules (suc t) p → Level g.rules t p) where
  pub settled : (i p : ℕ) → p < g.size → Level g.rules i p → Level g.rules t p
  settled zero p lt l = level_mono g.rules t zero p l (omega arith)
  settled (suc i) p lt (inl l) = settled i p lt l
  settled (suc i) p lt (inr (inl f)) =
      stable p lt (inr (inl (f.0, (f.1.0, f.1.1, settled i (move g.rules p f.1.0) ((sound p lt).1 f.1.0 f.1.1) f.1.2))))
  settled (suc i) p lt (inr (inr f)) = stable p lt (inr (inr (f.0, λ j l. settled i (move g.rules p j) ((sound p lt).1 j l) (f.1 j l))))
