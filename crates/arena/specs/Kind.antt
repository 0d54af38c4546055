-- The kinds of places, and the bytes that name them.
use Rattle.std.specs.Prelude.{◌≡◌, ℕ, ◌%◌, ◌<◌, ◌≤◌, Bool, cond, ◌==◌, nat_le, Result, MatchResult}
use Rattle.arena.specs.declared.kind.Kind.{Kind}
use Rattle.arena.specs.declared.kind.UnknownKind.{UnknownKind}
use Rattle.arena.specs.declared.player.Player.{Player}
use Rattle.arena.specs.declared.player.Player.TheVariants.{Runner, Pursuer}

-- the player of a kind: 0 and 2 the runner, 1 and 3 the pursuer
abbrev pub owner_of : ℕ → Player
owner_of kind = cond (kind % 2 == 1) Pursuer Runner

-- whether a kind is of a capture place: 2 and 3 are
abbrev pub is_capture_kind : ℕ → Bool
is_capture_kind kind = nat_le 2 kind

-- the result is the kind that the byte names, or an error with a byte that names none
abbrev pub Decodes : ℕ → Result Kind UnknownKind → Type 0
Decodes byte r =
    MatchResult r (λ kind. (byte ≤ 3) × (kind.owner ≡ owner_of byte) × (kind.capture ≡ is_capture_kind byte)) (λ e. (e.0 ≡ byte) × (3 < byte))
