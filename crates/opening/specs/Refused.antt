-- Why there is no opening or reply.
use Rattle.std.specs.Prelude.{◌≡◌, ℕ, ◌*◌, ◌≤◌, List, [], length}
use Rattle.board.specs.declared.board.Board.{Board}
use Rattle.board.specs.Boards.{spots_of, period_of}
use Rattle.board.specs.Gates.{places}
use Rattle.opening.specs.declared.refusal.OpeningRefusal.{OpeningRefusal}
use Rattle.opening.specs.declared.refusal.OpeningRefusal.TheVariants.{Table, Spot}

-- the table has two words for each place of the board
abbrev pub SameSize : Board → List ℕ → Type 0
SameSize b words = length words ≡ 2 * places (spots_of b) (period_of b)

-- the number of each refusal, and its values
abbrev pub told : OpeningRefusal → ℕ × List ℕ
told Table = (20, [])
told Spot = (21, [])

-- what is wrong with a reply against the pursuer at c; each cause only where those before it are absent
abbrev pub Cause : Board → List ℕ → ℕ → OpeningRefusal → Type 0
Cause b words c Table = SameSize b words → ⊥
Cause b words c Spot = SameSize b words × (spots_of b ≤ c)
