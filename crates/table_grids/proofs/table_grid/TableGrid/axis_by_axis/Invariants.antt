use Rattle.std.proofs.Common.{◌≡◌, ℕ, ◌<◌, length, get_or}
use Rattle.table_grids.specs.declared.dimension.Dimension.TheVariants.{Fixed}
use Rattle.table_grids.specs.Spans.{FixedFit, CountsAre, LongestAre}
use Rattle.table_grids.specs.Causes.{NoneRefused}
use Rattle.table_grids.proofs.table_grid.TableGrid.axis_by_axis.Given as goal

abbrev pub invariant-loop-a : goal.invariant-loop-a
invariant-loop-a g l = record {
  same_sizes : (k : ℕ) → k < l.a → get_or l.sizes k 0 ≡ get_or l.array_shape k 0;
  same_axes : (k : ℕ) → k < l.a → get_or l.dimensions k (Fixed 0) ≡ get_or l.axes k (Fixed 0);
  none_refused : NoneRefused g.R.SumRule.keeps l.a l.table l.array_shape l.axes;
  edges_fit : FixedFit l.a l.axes;
  counts_are : CountsAre l.a l.table l.array_shape l.axes l.counts;
  longest_are : LongestAre l.a l.table l.axes l.longest;
  long : (length l.sizes ≡ 8) × (length l.dimensions ≡ 8) × (length l.counts ≡ 8) × (length l.longest ≡ 8);
}
