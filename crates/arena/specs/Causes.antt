-- When the causes of a refusal are exact.
use Rattle.std.specs.Prelude.{◌≡◌}

-- where there is a cause, all is not well, and only one cause is there
abbrev pub CausesExclude : {C : Type 0} → Type 0 → (C → Type 0) → Type 0
CausesExclude {C} Well Cause = ((e : C) → Cause e → Well → ⊥) × ((d e : C) → Cause d → Cause e → d ≡ e)
