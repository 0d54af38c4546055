-- All places obey exactly when the table is true.
use Rattle.std.proofs.Common.{ℕ, ◌<◌, List, length, ltb→lt, lt→ltb}
use Rattle.arena.specs.Game.{Game, places}
use Rattle.arena.specs.TableRules.{TableRules}
use Rattle.arena.specs.Tables.{marks_of, moves_of, TrueTable}
use Rattle.arena.specs.Unfit.{Fits}
use Rattle.theory.proofs.Back.{rules}
use Rattle.theory.proofs.Below.{counts_below}
use Rattle.theory.proofs.Cover.{claims_up}
use Rattle.theory.proofs.Global.{claims}
use Rattle.theory.proofs.Stable.{sound_closed}
use Rattle.checker.specs.Obeys.{ObeysAt}
use Rattle.checker.specs.Verdicts.{Accepted, FirstFault, Faulty}

module _ (g : Game) (V : List ℕ) (fits : Fits g (length V)) where
  pub accepted : ((p : ℕ) → p < g.size → ObeysAt g V p) → Accepted g V
  accepted all =
      let closed = sound_closed g fits.sound in
      let table : TableRules g.rules (places g) (marks_of V) (moves_of g V) = λ p d. (all p (ltb→lt p g.size d)).rules in
      record {
        fits = fits;
        so = claims g.rules (places g) (marks_of V) (moves_of g V) closed table;
        folded = λ R φ folds. claims_up R g.rules φ folds (places g) closed (marks_of V) (moves_of g V) table;
      }

  pub obeyed : TrueTable g V → (p : ℕ) → p < g.size → ObeysAt g V p
  obeyed so p lt =
      let closed = sound_closed g fits.sound in
      let table = rules g.rules (places g) (marks_of V) (moves_of g V) closed so in
      record {
        rules = table p (lt→ltb p g.size lt);
        small = counts_below g.rules g.size (marks_of V) (moves_of g V) closed table p lt;
      }

  pub faulty : (p : ℕ) → FirstFault g V p → Faulty g V p
  faulty p first = record { fits = fits; first = first; untrue = λ so. first.1 (obeyed so p first.0) }
