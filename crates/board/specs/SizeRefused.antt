-- Why spots and lawful gates make no board: it would have too many places.
use Rattle.std.specs.Prelude.{ℕ, ◌<◌, List, []}
use Rattle.board.specs.declared.gate.Gate.{Gate}
use Rattle.board.specs.Gates.{places}
use Rattle.board.specs.Clock.{Period}
use Rattle.board.specs.declared.board.refusal.SizeRefusal.{SizeRefusal}
use Rattle.board.specs.declared.board.refusal.SizeRefusal.TheVariants.{TooLarge}

-- the number of the refusal, and its values
abbrev pub told : SizeRefusal → ℕ × List ℕ
told TooLarge = (10, [])

-- what is wrong: with the clock of these gates there are more than 1048576 places
abbrev pub Cause : ℕ → List Gate → SizeRefusal → Type 0
Cause n gates TooLarge = (T : ℕ) × Period gates T × (1048576 < places n T)
