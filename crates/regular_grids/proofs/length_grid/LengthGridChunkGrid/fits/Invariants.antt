use Rattle.std.proofs.Common.{◌≡◌, ℕ, ◌<◌, length, get_or}
use Rattle.axes.specs.Fitting.{LongestIn}
use Rattle.regular_grids.specs.declared.lengths.AxisLengths.{AxisLengths}
use Rattle.regular_grids.specs.LengthAxes.{axis_by}
use Rattle.regular_grids.proofs.length_grid.LengthGridChunkGrid.fits.Given as goal

abbrev pub invariant-loop-axis : goal.invariant-loop-axis
invariant-loop-axis g l = record {
  told : (k : ℕ) (d : AxisLengths) → k < l.axis → (get_or l.counts k 0 ≡ (axis_by g.R.EdgeRule.axis (get_or l.self.lengths.places k d)).count) × LongestIn (axis_by g.R.EdgeRule.axis (get_or l.self.lengths.places k d)) (get_or l.longest k 0);
  long : (length l.counts ≡ 8) × (length l.longest ≡ 8);
}
