-- Plays, strategies that see the whole play, and what it is to force a capture.
use Rattle.std.specs.Prelude.{◌≡◌, ℕ, ◌<◌, false, ◌⊎◌, List, [], ◌∷◌, length}
use Rattle.arena.specs.declared.player.Player.{Player}
use Rattle.arena.specs.declared.player.Player.TheVariants.{Pursuer}
use Rattle.arena.specs.Game.{Rules, degree, move, Step, caught}

-- a play is a list of places, the newest first, each a move of the one before it; it stops at its first capture
abbrev pub Play : Rules → List ℕ → Type 0
Play R [] = ⊥
Play R (p ∷ []) = Unit {0}
Play R (q ∷ (p ∷ h)) = (caught R p ≡ false) × Step R p q × Play R (p ∷ h)

-- the place that a play has come to
abbrev pub newest : List ℕ → ℕ
newest [] = 0
newest (p ∷ h) = p

-- how many moves a play has made
abbrev pub made : List ℕ → ℕ
made [] = 0
made (p ∷ h) = length h

-- the play began at o
abbrev pub From : ℕ → List ℕ → Type 0
From o [] = ⊥
From o (p ∷ []) = p ≡ o
From o (q ∷ (p ∷ h)) = From o (p ∷ h)

-- a strategy names the position of a move, for the whole play so far
abbrev pub Strategy : Type 0
Strategy = List ℕ → ℕ

-- a plan names a position for each place; as a strategy it looks at the newest place alone
abbrev pub plan : (ℕ → ℕ) → Strategy
plan w h = w (newest h)

-- each move in the play from a place of `side` is the one that s names for the play up to there
abbrev pub Follows : Rules → Player → Strategy → List ℕ → Type 0
Follows R side s [] = Unit {0}
Follows R side s (p ∷ []) = Unit {0}
Follows R side s (q ∷ (p ∷ h)) = (R.owner p ≡ side → q ≡ move R p (s (p ∷ h))) × Follows R side s (p ∷ h)

-- s is a pursuer strategy from o: at each play from o that can go on from a pursuer's place, it names a move that there is
abbrev pub Lawful : Rules → ℕ → Strategy → Type 0
Lawful R o s =
    (h : List ℕ) → Play R h → From o h → caught R (newest h) ≡ false → R.owner (newest h) ≡ Pursuer → 0 < degree R (newest h)
    → s h < degree R (newest h)

-- s forces capture from o in j moves: no play from o that follows s, still without capture, has made j moves or has come to a place with no move
abbrev pub Forces : Rules → Strategy → ℕ → ℕ → Type 0
Forces R s o j =
    (h : List ℕ) → Play R h → From o h → Follows R Pursuer s h → caught R (newest h) ≡ false
    → (made h ≡ j) ⊎ (degree R (newest h) ≡ 0) → ⊥
