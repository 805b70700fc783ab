use Rattle.std.specs.Prelude.{◌≡◌, ℕ, ◌^◌, ◌<◌, List, Some, None, Option}
use Rattle.edges.specs.declared.table.OffsetSize.{OffsetSize}
use Rattle.axes.specs.Axes.{Axis, fixed, varying}
use Rattle.table_grids.specs.declared.dimension.Dimension.{Dimension}
use Rattle.table_grids.specs.declared.span.Span.{Span}
use Rattle.table_grids.specs.declared.table_axis.TableAxis.{TableAxis}
use Rattle.table_grids.specs.declared.table_axis.TableAxis.TheVariants.{Equal, Listed}
use Rattle.table_grids.specs.Spans.{sizes, axis_of, fixed_edge, longest_of, longest_in}

-- What the entries of a span mean.
abbrev pub span_axis : Span → Axis
span_axis s = varying s.size (sizes s.entries.now)

-- What an axis over a table means, and its longest edge.
abbrev pub meaning : TableAxis → Axis
meaning (Equal n e) = fixed n e.number
meaning (Listed s) = span_axis s

abbrev pub longest_edge : TableAxis → ℕ
longest_edge (Equal n e) = e.number
longest_edge (Listed s) = longest_of s.entries.now

abbrev pub meanings : Option TableAxis → Option Axis
meanings None = None
meanings (Some x) = Some (meaning x)

-- The axis is the one that a dimension describes over a table, on an axis of size n.
pub record Described (x : TableAxis) (t : List OffsetSize) (n : ℕ) (d : Dimension) : Type 0 where
  pub axis : meaning x ≡ axis_of t n d
  pub longest : longest_edge x ≡ longest_in t d
  pub fits : fixed_edge d < 2 ^ 64
