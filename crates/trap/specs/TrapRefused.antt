-- Why bytes lay no traps.
use Rattle.std.specs.Prelude.{◌≡◌, ℕ, List, [], ◌∷◌, length}
use Rattle.arena.specs.Bytes.{FirstAbove}
use Rattle.arena.specs.Causes.{CausesExclude}
use Rattle.arena.specs.Game.{Game}
use Rattle.trap.specs.Traps.{Traps}
use Rattle.trap.specs.declared.refusal.TrapRefusal.{TrapRefusal}
use Rattle.trap.specs.declared.refusal.TrapRefusal.TheVariants.{Length, Byte}

-- the number of each refusal, and its values
abbrev pub told : TrapRefusal → ℕ × List ℕ
told Length = (13, [])
told (Byte p) = (14, p ∷ [])

-- what is wrong; each cause only where those before it are absent
abbrev pub Cause : Game → List ℕ → TrapRefusal → Type 0
Cause g bytes Length = length bytes ≡ g.size → ⊥
Cause g bytes (Byte p) = (length bytes ≡ g.size) × FirstAbove 1 bytes p

-- bytes that are refused lay no traps, and only one cause fits them
abbrev pub Exact : Type 0
Exact = (g : Game) (bytes : List ℕ) → CausesExclude (Traps g bytes) (Cause g bytes)
