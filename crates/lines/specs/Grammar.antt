-- What a line of a sheet is, and where a text stops being the front of one.
use Rattle.std.specs.Prelude.{◌≡◌, ℕ, ◌+◌, ◌<◌, ◌≤◌, ◌⊎◌, List, [], ◌∷◌, ◌++◌, length, ◌≢◌, slice_index}
use Rattle.std.specs.List.{AllByRecursion}
use Rattle.lines.specs.declared.line.Mark.{Mark}
use Rattle.lines.specs.declared.line.Mark.TheVariants.{Board, Gate, Trap, End}

-- what a field is
pub data Kind : Type 0 where
  Number : Kind
  Pattern : Kind

-- the bytes of a field: a number has the digits 0 to 9, a pattern the characters 0 and 1
abbrev pub Byte : Kind → ℕ → Type 0
Byte Number b = (48 ≤ b) × (b ≤ 57)
Byte Pattern b = (b ≡ 48) ⊎ (b ≡ 49)

-- the most bytes that a field has
abbrev pub most : Kind → ℕ
most Number = 3
most Pattern = 32

-- a number has no 0 ahead of another digit
abbrev pub Plain : Kind → List ℕ → Type 0
Plain Number f = 1 < length f → slice_index f 0 ≢ 48
Plain Pattern f = Unit {0}

-- a field: a number of one to three digits, or a pattern of 1 to 32 characters
pub record FieldOf (k : Kind) (f : List ℕ) : Type 0 where
  pub some : 0 < length f
  pub short : length f ≤ most k
  pub bytes : AllByRecursion (Byte k) f
  pub plain : Plain k f

-- each text is a field of its kind
abbrev pub Forms : List Kind → List (List ℕ) → Type 0
Forms [] [] = Unit {0}
Forms [] (f ∷ fs) = ⊥
Forms (k ∷ ks) [] = ⊥
Forms (k ∷ ks) (f ∷ fs) = FieldOf k f × Forms ks fs

-- what follows a mark: one space ahead of each field, and byte 10
abbrev pub spaced : List (List ℕ) → List ℕ
spaced [] = 10 ∷ []
spaced (f ∷ fs) = 32 ∷ (f ++ spaced fs)

-- the first byte of each mark: bd, gt, tr, en
abbrev pub first : Mark → ℕ
first Board = 98
first Gate = 103
first Trap = 116
first End = 101

-- its second byte
abbrev pub second : Mark → ℕ
second Board = 100
second Gate = 116
second Trap = 114
second End = 110

-- the fields that a line of the mark has
abbrev pub kinds : Mark → List Kind
kinds Board = Number ∷ []
kinds Gate = Number ∷ Number ∷ Pattern ∷ []
kinds Trap = Number ∷ []
kinds End = []

-- l begins with the mark
pub record Marked (m : Mark) (l after : List ℕ) : Type 0 where
  pub parts : l ≡ first m ∷ second m ∷ after

-- the whole lines of a mark
pub record LineOf (m : Mark) (l : List ℕ) : Type 0 where
  pub texts : List (List ℕ)
  pub formed : Forms (kinds m) texts
  pub parts : l ≡ first m ∷ second m ∷ spaced texts

-- some text of L begins with p
pub record Viable (L : List ℕ → Type 0) (p : List ℕ) : Type 0 where
  pub on : List ℕ
  pub makes : L (p ++ on)

-- the text ends here, or its next byte is one that no text of L has after p
abbrev pub Stuck : (List ℕ → Type 0) → List ℕ → List ℕ → Type 0
Stuck L p [] = Unit {0}
Stuck L p (b ∷ q) = Viable L (p ++ b ∷ []) → ⊥

-- l begins at the offset `at`, and the first byte that no text of L can have after those before it is at `place`,
-- or l ends there and is none yet
pub record Refused (L : List ℕ → Type 0) (at : ℕ) (l : List ℕ) (place : ℕ) : Type 0 where
  pub seen : List ℕ
  pub left : List ℕ
  pub whole : l ≡ seen ++ left
  pub here : place ≡ at + length seen
  pub viable : Viable L seen
  pub unended : L seen → ⊥
  pub stuck : Stuck L seen left
