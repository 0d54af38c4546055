-- The rules of a sheet, in their order, and the two things that a text can be: a sheet, or broken.
use Rattle.std.specs.Prelude.{◌≡◌, ℕ, ◌+◌, ◌<◌, ◌≤◌, ◌⊎◌, List, [], ◌∷◌, ◌++◌, length, Some, None, Option, ◌≢◌, slice_index}
use Rattle.std.specs.List.{ContainsAt, AllByRecursion}
use Rattle.board.specs.declared.gate.Gate.{Gate}
use Rattle.board.specs.Clock.{Period}
use Rattle.board.specs.Gates.{LawfulSpots, places}
use Rattle.lines.specs.declared.refusal.Layer.{Layer}
use Rattle.lines.specs.declared.refusal.Layer.TheVariants.{Board, Pattern}
use Rattle.lines.specs.declared.refusal.Told.{Told}
use Rattle.lines.specs.Lines.{Entry, board, gate, trap, end, Formed, line_bytes, Declined}
use Rattle.lines.specs.Values.{decimal}
use Rattle.sheet.specs.Says.{Row, Held, added, after, written, rows}

-- a gate joins u and v, in either order
abbrev pub Joins : ℕ → ℕ → Row → Type 0
Joins u v r = ((u ≡ r.from) × (v ≡ r.to)) ⊎ ((u ≡ r.to) × (v ≡ r.from))

-- some gate of a list joins u and v
abbrev pub Joined : ℕ → ℕ → List Row → Type 0
Joined u v [] = ⊥
Joined u v (r ∷ rs) = Joins u v r ⊎ Joined u v rs

-- T is the clock of gates with these rows
abbrev pub Clock : List Row → ℕ → Type 0
Clock rs T = (gates : List Gate) × (rows gates ≡ rs) × Period gates T

-- the board would have more than 1048576 places
abbrev pub Over : Held → Type 0
Over s = (T : ℕ) × Clock s.gates T × (1048576 < places s.spots T)

-- it has at most 1048576
abbrev pub Within : Held → Type 0
Within s = (T : ℕ) → Clock s.gates T → places s.spots T ≤ 1048576

-- a table of rules in their order: its number and layer, how far into the line it is told, and what breaks it
pub data Breaches : Type 1 where
  none : Breaches
  breach : ℕ → Layer → ℕ → Type 0 → Breaches → Breaches

-- what a line can break after lines that said s, where `more` follows it
abbrev pub breaches : Option Held → Entry → List ℕ → Breaches
breaches None (board n) more = breach 7 Board 3 (LawfulSpots (decimal n) → ⊥) none
breaches None (gate u v p) more = breach 6 Board 0 (Unit {0}) none
breaches None (trap v) more = breach 6 Board 0 (Unit {0}) none
breaches None end more = breach 6 Board 0 (Unit {0}) none
breaches (Some s) (board n) more = breach 6 Board 0 (Unit {0}) none
breaches (Some s) (gate u v p) more =
    breach 7 Board 3 (s.spots ≤ decimal u)
    (breach 7 Board (4 + length u) (s.spots ≤ decimal v)
    (breach 3 Pattern (5 + length u + length v) (AllByRecursion (λ b. b ≡ 48) p)
    (breach 8 Board 0 ((decimal u ≡ decimal v) ⊎ Joined (decimal u) (decimal v) s.gates)
    (breach 9 Board 0 (256 ≤ length s.gates)
    none))))
breaches (Some s) (trap v) more =
    breach 7 Board 3 (s.spots ≤ decimal v)
    (breach 8 Board 0 (ContainsAt s.traps (decimal v))
    none)
breaches (Some s) end more =
    breach 6 Board 3 (0 < length more)
    (breach 10 Board 3 (Over s)
    none)

-- no rule of the table is broken
abbrev pub Clean : Breaches → Type 0
Clean none = Unit {0}
Clean (breach n l place P more) = (P → ⊥) × Clean more

-- t tells the first rule of the table that a line at the offset `at` breaks
abbrev pub First : ℕ → Breaches → Told → Type 0
First at none t = ⊥
First at (breach n l place P more) t = (P × (t ≡ record { number = n; offset = at + place; layer = l })) ⊎ ((P → ⊥) × First at more t)

-- the line does not end the sheet
abbrev pub GoesOn : Entry → Type 0
GoesOn (board n) = Unit {0}
GoesOn (gate u v p) = Unit {0}
GoesOn (trap v) = Unit {0}
GoesOn end = ⊥

-- lines that can follow those that said s: each is in form, breaks no rule after those before it, and does not end the sheet
abbrev pub Lawful : Option Held → List Entry → Type 0
Lawful s [] = Unit {0}
Lawful s (e ∷ es) = GoesOn e × Formed e × Clean (breaches s e []) × Lawful (added s e) es

-- the text is a sheet that says s: lawful lines, and the line en
pub record Writes (text : List ℕ) (s : Held) : Type 0 where
  pub lines : List Entry
  pub lawful : Lawful None lines
  pub whole : text ≡ written lines ++ line_bytes end
  pub says : after None lines ≡ Some s
  pub within : Within s

-- what breaks off a sheet whose lines up to the offset `at` said s, and which goes on with `rest`:
-- there is nothing, there is no line, or there is a line that breaks a rule
pub data Fault (s : Option Held) (at : ℕ) (rest : List ℕ) (t : Told) : Type 0 where
  nothing : rest ≡ [] → t ≡ record { number = 6; offset = at; layer = Board } → Fault s at rest t
  unread : 0 < length rest → Declined at rest t → Fault s at rest t
  unlawful : (e : Entry) (more : List ℕ) → Formed e → rest ≡ line_bytes e ++ more → First at (breaches s e more) t → Fault s at rest t

-- the text is lawful lines, and then breaks the rule that t tells, first of all
pub record BrokenAt (text : List ℕ) (t : Told) : Type 0 where
  pub lines : List Entry
  pub rest : List ℕ
  pub lawful : Lawful None lines
  pub whole : text ≡ written lines ++ rest
  pub fault : Fault (after None lines) (length (written lines)) rest t

-- a board of n spots may have these traps: each is on a spot, and no two on one
pub record LawfulTraps (n : ℕ) (ts : List ℕ) : Type 0 where
  pub spots : AllByRecursion (λ v. v < n) ts
  pub once : (i j : ℕ) → i < j → j < length ts → slice_index ts i ≢ slice_index ts j
