use Rattle.std.specs.Prelude.{◌≡◌, ℕ, zero, suc, cond, ◌==◌, nat_le, List, [], Some, None, Ok, Err, Option, Result}
use Rattle.edges.specs.declared.fault.Cause.{Cause}
use Rattle.edges.specs.declared.fault.Cause.TheVariants.{Length, Axes}
use Rattle.edges.specs.declared.fault.Fault.{Fault}
use Rattle.axes.specs.Axes.{Axis, axes_by}
use Rattle.grids.specs.Places.{refused, refused_at}

-- What a making answers: the grid that it defines, or a refusal beside a grid of no axes.
abbrev pub Makes : Result (Unit {0}) Fault → List Axis → Result (List Axis) Fault → Type 0
Makes r xs (Ok ys) = (r ≡ Ok tt) × (xs ≡ ys)
Makes r xs (Err f) = (r ≡ Err f) × (xs ≡ [])

-- What every making refuses first: 1 where its lists differ in length, 2 above 8 axes.
abbrev pub axes_answer : ℕ → ℕ → Result (Unit {0}) Fault
axes_answer n m = cond (n == m) (cond (nat_le n 8) (Ok tt) (Err (refused Axes))) (Err (refused Length))

-- The first cause among those of axes 0 .. n - 1.
abbrev pub else_at : Option Fault → ℕ → Option Cause → Option Fault
else_at (Some f) a c = Some f
else_at None a None = None
else_at None a (Some c) = Some (refused_at c a)

unfoldable pub first_fault : (ℕ → Option Cause) → ℕ → Option Fault
first_fault f zero = None
first_fault f (suc n) = else_at (first_fault f n) n (f n)

abbrev pub unless : {B : Type 0} → Option Fault → Result B Fault → Result B Fault
unless None y = y
unless (Some f) y = Err f

-- What a making from n axes gives: the first cause of a refusal, axis by axis, else the axes.
abbrev pub made_by : ℕ → (ℕ → Option Cause) → (ℕ → Axis) → Result (List Axis) Fault
made_by n cause axis = unless (first_fault cause n) (Ok (axes_by n axis))
