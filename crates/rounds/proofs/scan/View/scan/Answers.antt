use Rattle.std.proofs.Common.{◌∙◌, ltb-true, lt-ltb}
use Rattle.arena.specs.Game.{Game}
use Rattle.arena.specs.declared.player.Player.TheVariants.{Runner}
use Rattle.arena.proofs.Asked.{owner_known}
use Rattle.rounds.proofs.Scanned.{scan_at}
use Rattle.rounds.proofs.scan.View.scan.Goals as goal

pub returns-in-Some : goal.returns-in-Some
returns-in-Some g c =
    let G : Game = g.A.Arena.game c.args.self.now.arena.now in
    let e = c.unwrap_or-player.ensures ∙ rw c.owner.ensures (owner_known G c.args.self.now.place Runner c.args.self.now.here) in
    let told = scan_at G.rules c.args.self.now.cap c.args.self.now.table.now c.args.self.now.place _ e c.args.self.now.sound.0 _ (rw c.in-Some.is at c.pick_move-seen.ensures.entry) in
    record {
      word = told.1;
      ready = ((λ b. told.2 (ltb-true _ _ b)), (λ r. lt-ltb _ _ (told.3 r)));
      looks = c.pick_move-seen.ensures.looks;
    }
