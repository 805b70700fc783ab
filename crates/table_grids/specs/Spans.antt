use Rattle.std.specs.Prelude.{◌≡◌, ℕ, ◌^◌, ◌<◌, ◌≤◌, max, List, [], ◌∷◌, map, length, get_or, take, drop, slice_index, slice_index_or}
use Rattle.edges.specs.declared.table.OffsetSize.{OffsetSize}
use Rattle.edges.specs.Answers.{no_entry}
use Rattle.edges.specs.Runs.{total}
use Rattle.axes.specs.Axes.{Axis, axes_by, fixed, varying}
use Rattle.table_grids.specs.declared.dimension.Dimension.{Dimension}
use Rattle.table_grids.specs.declared.dimension.Dimension.TheVariants.{Fixed, Varying}

-- The entries of a span, and the sizes in them.
abbrev pub span : List OffsetSize → ℕ → ℕ → List OffsetSize
span t first number = take number (drop first t)

abbrev pub sizes : List OffsetSize → List ℕ
sizes es = map (λ e. e.size) es

-- What a dimension means over a table, on an axis of size n.
abbrev pub axis_of : List OffsetSize → ℕ → Dimension → Axis
axis_of t n (Fixed s) = fixed n s
axis_of t n (Varying first number) = varying n (sizes (span t first number))

-- What sizes and dimensions mean over a table.
abbrev pub axes_over : List OffsetSize → ℕ → List ℕ → List Dimension → List Axis
axes_over t number ns ds = axes_by number (λ a. axis_of t (slice_index ns a) (slice_index_or ds a (Fixed 0)))

-- each offset is the sum of the sizes before it
abbrev pub OffsetsAreSums : List OffsetSize → Type 0
OffsetsAreSums es = (k : ℕ) → k < length es → (get_or es k no_entry).offset ≡ total (take k (sizes es))

-- each size is at least 1
abbrev pub SizesPositive : List OffsetSize → Type 0
SizesPositive es = (k : ℕ) → k < length es → 1 ≤ (get_or es k no_entry).size

-- the longest edge among the entries, 0 where there is none
abbrev pub longest_of : List OffsetSize → ℕ
longest_of [] = 0
longest_of (e ∷ es) = max e.size (longest_of es)

-- The longest edge that a dimension gives.
abbrev pub longest_in : List OffsetSize → Dimension → ℕ
longest_in t (Fixed s) = s
longest_in t (Varying first number) = longest_of (span t first number)

-- the edge of a Fixed axis
abbrev pub fixed_edge : Dimension → ℕ
fixed_edge (Fixed s) = s
fixed_edge (Varying first number) = 0

-- Of the first `number` axes: Fixed edges have 64 bits, and these are the counts and the longest edges.
abbrev pub FixedFit : ℕ → List Dimension → Type 0
FixedFit number ds = (a : ℕ) → a < number → fixed_edge (slice_index_or ds a (Fixed 0)) < 2 ^ 64

abbrev pub CountsAre : ℕ → List OffsetSize → List ℕ → List Dimension → List ℕ → Type 0
CountsAre number t ns ds counts = (a : ℕ) → a < number → slice_index counts a ≡ (axis_of t (slice_index ns a) (slice_index_or ds a (Fixed 0))).count

abbrev pub LongestAre : ℕ → List OffsetSize → List Dimension → List ℕ → Type 0
LongestAre number t ds longest = (a : ℕ) → a < number → slice_index longest a ≡ longest_in t (slice_index_or ds a (Fixed 0))
