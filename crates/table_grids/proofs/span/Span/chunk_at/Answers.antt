use Rattle.std.proofs.Common.{◌+◌, ◌-◌, ◌/◌, arith}
use Rattle.table_grids.proofs.Halving.{lower_half, upper_half, found, not_found}
use Rattle.table_grids.proofs.Tables.{span_valid}
use Rattle.table_grids.proofs.span.Span.chunk_at.Goals as goal

pub loop-high-preserved-then-index-found : goal.loop-high-preserved-then-index-found
loop-high-preserved-then-index-found c = (
  omega arith,
  lower_half _ _ (span_valid c.args.self) _ _ _ (c.loop-high.low + (c.loop-high.high - c.loop-high.low) / 2) c.loop-high.invariant.1 (omega arith) c.if-index-found.true,
)

pub loop-high-preserved : goal.loop-high-preserved
loop-high-preserved c = (
  omega arith,
  upper_half _ _ (span_valid c.args.self) _ _ _ (c.loop-high.low + (c.loop-high.high - c.loop-high.low) / 2) c.loop-high.invariant.1 (omega arith) c.if-index-found.false c.if-index-found-2.false,
)

pub returns-then-low-high : goal.returns-then-low-high
returns-then-low-high c = not_found _ _ (span_valid c.args.self) _ _ _ c.loop-high.invariant.1 c.if-low-high.true

pub returns-then-index-found-2 : goal.returns-then-index-found-2
returns-then-index-found-2 c =
    found _ _ (span_valid c.args.self) _ (c.loop-high.low + (c.loop-high.high - c.loop-high.low) / 2) (omega arith) (omega arith) c.if-index-found.false c.if-index-found-2.true
