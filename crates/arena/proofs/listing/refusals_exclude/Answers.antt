use Rattle.std.proofs.Common.{◌≡◌, ℕ, List, refl, ap}
use Rattle.arena.proofs.First.{first_above_once, not_all_up_to}
use Rattle.arena.specs.Listed.{LawfulRows, Cause}
use Rattle.arena.specs.declared.listing_refusal.ListingRefusal.{ListingRefusal}
use Rattle.arena.specs.declared.listing_refusal.ListingRefusal.TheVariants.{Kind, Starts}
use Rattle.arena.proofs.listing.refusals_exclude.Goals as goal

unlawful : (kinds starts moves : List ℕ) (e : ListingRefusal) → Cause kinds starts moves e → LawfulRows kinds starts moves → ⊥
unlawful kinds starts moves (Kind p) h l = not_all_up_to 3 kinds p h l.0
unlawful kinds starts moves Starts h l = h.1 l.1

once : (kinds starts moves : List ℕ) (d e : ListingRefusal) → Cause kinds starts moves d → Cause kinds starts moves e → d ≡ e
once kinds starts moves (Kind p) (Kind q) h k = ap Kind (first_above_once 3 kinds p q h k)
once kinds starts moves (Kind p) Starts h k = absurd (not_all_up_to 3 kinds p h k.0)
once kinds starts moves Starts (Kind q) h k = absurd (not_all_up_to 3 kinds q k h.0)
once kinds starts moves Starts Starts h k = refl

pub returns : goal.returns
returns c = λ kinds starts moves. (unlawful kinds starts moves, once kinds starts moves)
