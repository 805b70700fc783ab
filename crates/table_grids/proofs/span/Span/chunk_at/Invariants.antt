use Rattle.std.proofs.Common.{◌-◌, ◌≤◌, length}
use Rattle.table_grids.specs.Views.{span_axis}
use Rattle.table_grids.proofs.Halving.{Between}
use Rattle.table_grids.proofs.span.Span.chunk_at.Given as goal

abbrev pub invariant-loop-high : goal.invariant-loop-high
invariant-loop-high l = (l.high ≤ length l.self.entries.now) × Between (span_axis l.self) l.index l.low l.high

abbrev pub decreases-loop-high : goal.decreases-loop-high
decreases-loop-high l = l.high - l.low
