use Rattle.std.specs.Prelude.{◌≡◌, ℕ, Bool, true, cond, ◌&&◌, List, [], ◌∷◌, Some, None, Ok, Err, Option, Result, ◌==◌}
use Rattle.edges.specs.declared.fault.Cause.{Cause}
use Rattle.edges.specs.declared.fault.Cause.TheVariants.{Length}
use Rattle.edges.specs.declared.fault.Layer.TheVariants.{Grid}
use Rattle.edges.specs.declared.fault.Fault.{Fault}
use Rattle.edges.specs.Refusals.{refusal}

-- A refusal of the grid's layer, and one that names an axis.
abbrev pub refused : Cause → Fault
refused c = refusal c Grid

abbrev pub refused_at : Cause → ℕ → Fault
refused_at c a = record { cause = c; layer = Grid; axis = a }

-- An answer of a grid: there, absent or refused.
abbrev pub Answer : Type 0 → Type 0
Answer B = Result (Option B) Fault

-- What supplied places hold after a call: the answer where there is one, and else what they held before.
abbrev pub Gives : {P : Type 0} → P → P → Answer (Unit {0}) → Answer P → Type 0
Gives before after r (Ok (Some xs)) = (r ≡ Ok (Some tt)) × (after ≡ xs)
Gives before after r (Ok None) = (r ≡ Ok None) × (after ≡ before)
Gives before after r (Err f) = (r ≡ Err f) × (after ≡ before)

-- Refusal 1 where a list or a place has another length than the grid has axes.
abbrev pub all_are : ℕ → List ℕ → Bool
all_are n [] = true
all_are n (m ∷ ms) = m == n && all_are n ms

abbrev pub sized : {B : Type 0} → List ℕ → ℕ → Result B Fault → Result B Fault
sized ms n r = cond (all_are n ms) r (Err (refused Length))
