-- The refusals of traps exclude each other and the lawful bytes.
use Rattle.std.proofs.Common.{◌≡◌, ℕ, List, refl, ap}
use Rattle.arena.proofs.First.{first_above_once, not_all_up_to}
use Rattle.arena.specs.Game.{Game}
use Rattle.trap.specs.Traps.{Traps}
use Rattle.trap.specs.TrapRefused.{Cause}
use Rattle.trap.specs.declared.refusal.TrapRefusal.{TrapRefusal}
use Rattle.trap.specs.declared.refusal.TrapRefusal.TheVariants.{Length, Byte}

pub unlawful : (g : Game) (bytes : List ℕ) (e : TrapRefusal) → Cause g bytes e → Traps g bytes → ⊥
unlawful g bytes Length h t = h t.0
unlawful g bytes (Byte p) h t = not_all_up_to 1 bytes p h.1 t.1

pub once : (g : Game) (bytes : List ℕ) (d e : TrapRefusal) → Cause g bytes d → Cause g bytes e → d ≡ e
once g bytes Length Length h k = refl
once g bytes Length (Byte q) h k = absurd (h k.0)
once g bytes (Byte p) Length h k = absurd (k h.0)
once g bytes (Byte p) (Byte q) h k = ap Byte (first_above_once 1 bytes p q h.1 k.1)
