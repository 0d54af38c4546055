-- What the parts of the line reader answer.
use Rattle.std.specs.Prelude.{◌≡◌, ℕ, ◌+◌, ◌<◌, ◌≤◌, Bool, cond, List, [], ◌∷◌, ◌++◌, length, take, Some, None, Option, ◌≢◌, slice_index, Result, MatchResult}
use Rattle.lines.specs.declared.line.Line.{Line}
use Rattle.lines.specs.declared.line.Mark.{Mark}
use Rattle.lines.specs.declared.part.Part.{Part}
use Rattle.lines.specs.declared.refusal.NoLine.{NoLine}
use Rattle.lines.specs.declared.rest.Found.{Found}
use Rattle.lines.specs.declared.rest.Rest.{Rest}
use Rattle.lines.specs.declared.rest.Taken.{Taken}
use Rattle.lines.specs.Grammar.{Kind, Byte, FieldOf, Forms, spaced, kinds, Refused}
use Rattle.lines.specs.Entries.{mark_of, entry_of, fields, Laid}

-- what a pattern's character says of its step
abbrev pub Says : ℕ → Option Bool → Type 0
Says b None = (b ≢ 48) × (b ≢ 49)
Says b (Some x) = cond x (b ≡ 49) (b ≡ 48)

-- n is how many bytes at the front, at most `limit`, can be a field's
pub record Run (k : Kind) (limit : ℕ) (body : List ℕ) (n : ℕ) : Type 0 where
  pub within : n ≤ length body
  pub bounded : n ≤ limit
  pub all : (i : ℕ) → i < n → Byte k (slice_index body i)
  pub stops : n < length body → n < limit → Byte k (slice_index body n) → ⊥

-- the longest field at the front has n bytes; 0 where there is none
pub record Longest (k : Kind) (body : List ℕ) (n : ℕ) : Type 0 where
  pub within : n ≤ length body
  pub good : 0 < n → FieldOf k (take n body)
  pub stops : n < length body → FieldOf k (take (n + 1) body) → ⊥

-- the text goes on with no byte that the field could have
abbrev pub Ends : Kind → List ℕ → List ℕ → Type 0
Ends k f [] = Unit {0}
Ends k f (b ∷ x) = FieldOf k (f ++ b ∷ []) → ⊥

-- t is one space and the longest field at the front of r
pub record Took (k : Kind) (r : Rest) (t : Taken) : Type 0 where
  pub parts : r.bytes.now ≡ 32 ∷ (t.field.bytes.now ++ t.rest.bytes.now)
  pub good : FieldOf k t.field.bytes.now
  pub ends : Ends k t.field.bytes.now t.rest.bytes.now
  pub offset : t.field.offset ≡ r.at + 1
  pub goes_on : t.rest.at ≡ t.field.offset + length t.field.bytes.now

-- what follows a mark that has fields of these kinds
pub record RestOf (ks : List Kind) (l : List ℕ) : Type 0 where
  pub texts : List (List ℕ)
  pub formed : Forms ks texts
  pub parts : l ≡ spaced texts

-- the bytes of the fields
abbrev pub shown : List Part → List (List ℕ)
shown [] = []
shown (f ∷ fs) = f.bytes.now ∷ shown fs

-- r, which begins with the first space, has these fields and the line's end at its front, and the next line begins at `next`
pub record ReadsRest (r : Rest) (ks : List Kind) (fs : List Part) (next : ℕ) : Type 0 where
  pub after : List ℕ
  pub parts : r.bytes.now ≡ spaced (shown fs) ++ after
  pub formed : Forms ks (shown fs)
  pub laid : Laid r.at fs
  pub ends : next ≡ r.at + length (spaced (shown fs))

-- the first byte that no text of L can have is at the offset that is refused
abbrev pub StopsAt : (List ℕ → Type 0) → Rest → NoLine → Type 0
StopsAt L r why = Refused L r.at r.bytes.now why.offset

-- what is found says x, of which r has the fields fs and the line's end at its front; or why r has none
abbrev pub Completes : Line → Rest → List Kind → List Part → Result Found NoLine → Type 0
Completes x r ks fs result = MatchResult result (λ found. (found.line ≡ x) × ReadsRest r ks fs found.next) (λ why. StopsAt (RestOf ks) r why)

-- a line of the mark was read after its mark
pub record ReadsAfter (m : Mark) (r : Rest) (found : Found) : Type 0 where
  pub marked : mark_of (entry_of found.line) ≡ m
  pub rest : ReadsRest r (kinds m) (fields found.line) found.next
