use Rattle.std.specs.Prelude.{◌≡◌, ℕ, ◌+◌, ◌^◌, ◌<◌, ◌≤◌, Bool, true, false, cond, ◌&&◌, List, [], ◌∷◌, length, is_some, Some, None, Ok, Err, Option, Result, ◌==◌, nat_le, nat_lt, slice_index, slice_index_or}
use Rattle.edges.specs.declared.table.OffsetSize.{OffsetSize}
use Rattle.edges.specs.declared.fault.Cause.{Cause}
use Rattle.edges.specs.declared.fault.Cause.TheVariants.{Length, Axes, Zero, Sum, Overflow, Short}
use Rattle.edges.specs.declared.fault.Fault.{Fault}
use Rattle.edges.specs.Runs.{total, has_zero}
use Rattle.axes.specs.Axes.{Axis}
use Rattle.grids.specs.Places.{refused}
use Rattle.grids.specs.Making.{made_by}
use Rattle.table_grids.specs.declared.dimension.Dimension.{Dimension}
use Rattle.table_grids.specs.declared.dimension.Dimension.TheVariants.{Fixed, Varying}
use Rattle.table_grids.specs.Spans.{span, sizes, axis_of}

-- each offset is o and the sizes before it
unfoldable pub laid : ℕ → List OffsetSize → Bool
laid o [] = true
laid o (e ∷ es) = e.offset == o && laid (o + e.size) es

-- How the sum m of a span stands to the size n: a sum that keeps the rule reaches the size.
abbrev pub exactly : ℕ → ℕ → Bool
exactly n m = m == n

abbrev pub at_least : ℕ → ℕ → Bool
at_least n m = nat_le n m

abbrev pub Reaches : (ℕ → ℕ → Bool) → Type 0
Reaches keeps = (n m : ℕ) → keeps n m ≡ true → n ≤ m

-- Why a span is refused on an axis of size n, by its number of entries, whether a size is 0, and the sum:
-- 3 if a size is 0; 5 if the end exceeds 2^64 - 1; 4 if it is empty or its sum breaks its rule.
abbrev pub sum_cause : (ℕ → ℕ → Bool) → ℕ → ℕ → Bool → ℕ → Option Cause
sum_cause keeps n number zero sum =
    cond zero (Some Zero)
    (cond (nat_lt sum (2 ^ 64))
    (cond (nat_lt 0 number && keeps n sum) None (Some Sum))
    (Some Overflow))

-- what a check answers
abbrev pub unless_cause : Option Cause → Result (Unit {0}) Cause
unless_cause None = Ok tt
unless_cause (Some c) = Err c

-- by its entries: 6 if an offset is not the sum before it
abbrev pub entries_cause : (ℕ → ℕ → Bool) → ℕ → List OffsetSize → Option Cause
entries_cause keeps n es = cond (laid 0 es) (sum_cause keeps n (length es) (has_zero (sizes es)) (total (sizes es))) (Some Short)

-- Why an axis of size n is refused: 3 for a Fixed edge of 0; 6 if a span leaves the table; else what its entries say.
abbrev pub axis_cause : (ℕ → ℕ → Bool) → List OffsetSize → ℕ → Dimension → Option Cause
axis_cause keeps t n (Fixed s) = cond (s == 0) (Some Zero) None
axis_cause keeps t n (Varying first number) =
    cond (nat_le (first + number) (length t)) (entries_cause keeps n (span t first number)) (Some Short)

-- none of the first `number` axes is refused
abbrev pub NoneRefused : (ℕ → ℕ → Bool) → ℕ → List OffsetSize → List ℕ → List Dimension → Type 0
NoneRefused keeps number t ns ds = (a : ℕ) → a < number → is_some (axis_cause keeps t (slice_index ns a) (slice_index_or ds a (Fixed 0))) ≡ false

-- What is made axis by axis: the first cause of a refusal, else the axes.
abbrev pub axis_by_axis : (ℕ → ℕ → Bool) → List ℕ → List Dimension → List OffsetSize → Result (List Axis) Fault
axis_by_axis keeps ns ds t =
    made_by (length ns) (λ a. axis_cause keeps t (slice_index ns a) (slice_index_or ds a (Fixed 0))) (λ a. axis_of t (slice_index ns a) (slice_index_or ds a (Fixed 0)))

-- What is made from sizes, dimensions and a table: 1 if the lengths differ, 2 above 8 axes, 6 if the table has over 65,536 entries; then axis by axis.
abbrev pub new_table : (ℕ → ℕ → Bool) → List ℕ → List Dimension → List OffsetSize → Result (List Axis) Fault
new_table keeps ns ds t =
    cond (length ns == length ds)
    (cond (nat_le (length ns) 8)
    (cond (nat_le (length t) 65536) (axis_by_axis keeps ns ds t) (Err (refused Short)))
    (Err (refused Axes)))
    (Err (refused Length))
