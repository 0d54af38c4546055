use Rattle.std.proofs.Common.{◌≡◌, ℕ, ◌<◌, ◌≤◌, Option, None, Some, MatchOption, rules, arith}
use Rattle.std.proofs.lemmas.Iterator.{first_from_Range}
use Rattle.arena.specs.Game.{Game}
use Rattle.arena.specs.Sound.{FirstUnsound, SoundAt}
use Rattle.arena.proofs.interface.Arena.scan_unsound.Goals as goal

-- what `find` says of the places below the size
found : (g : Game) (n : ℕ) (r : Option ℕ) → n ≡ g.size → MatchOption r ((k : ℕ) → 0 ≤ k → k < n → (k < g.size) × SoundAt g k) (λ i. (0 ≤ i) × (i < n) × ((i < g.size) × SoundAt g i → ⊥) × ((k : ℕ) → 0 ≤ k → k < i → (k < g.size) × SoundAt g k)) → FirstUnsound g r
found g n None e h = λ k lt. (h k (omega arith) (omega arith)).1
found g n (Some i) e h =
    let lt : i < g.size = omega (arith, h.1) in
    (lt, λ s. h.2 (lt, s), λ k l. (h.3 k (omega arith) l).1)

pub returns : goal.returns
returns g c =
    let game = g.Self.Arena.game c.args.self.now in
    found game c.size.result c.find.result c.size.ensures (first_from_Range _ _ _ _ (λ k. (k < game.size) × SoundAt game k → ⊥) (λ k. (k < game.size) × SoundAt game k) c.find.ensures.ran (λ x q k. search rules) (λ x q k. search rules))
