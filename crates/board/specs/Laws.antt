-- The laws of patterns, gates and clocks: each is on the contract of a function of the module `laws`.
use Rattle.std.specs.Prelude.{◌≡◌, ℕ, List}
use Rattle.board.specs.declared.gate.Gate.{Gate}
use Rattle.board.specs.declared.pattern.refusal.PatternRefusal.{PatternRefusal}
use Rattle.board.specs.declared.draft.refusal.GateRefusal.{GateRefusal}
use Rattle.board.specs.Patterns.{Lawful}
use Rattle.board.specs.PatternRefused.{Cause as PatternCause}
use Rattle.board.specs.GateRefused.{Fits, Cause as GateCause}
use Rattle.board.specs.Clock.{Period}
use Rattle.board.specs.declared.draft.refusal.GateRefusal.TheVariants.{NoMemory}

-- a pattern that is refused is not lawful, and refused for one cause
abbrev pub PatternRefusalsExclude : Type 0
PatternRefusalsExclude =
    (bits steps : ℕ) (e f : PatternRefusal) → PatternCause bits steps e
    → (Lawful bits steps → ⊥) × (PatternCause bits steps f → e ≡ f)

-- a gate that is refused does not fit, but for want of memory, and is refused for one cause
abbrev pub GateRefusalsExclude : Type 0
GateRefusalsExclude =
    (n : ℕ) (gates : List Gate) (g : Gate) (e f : GateRefusal) → GateCause n gates g e
    → (Fits n gates g → e ≡ NoMemory) × (GateCause n gates g f → e ≡ f)

-- the gates of a board have one clock
abbrev pub OnePeriod : Type 0
OnePeriod = (gates : List Gate) (T U : ℕ) → Period gates T → Period gates U → T ≡ U
