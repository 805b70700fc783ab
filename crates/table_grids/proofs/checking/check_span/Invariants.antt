use Rattle.table_grids.proofs.Entries.{Passed}
use Rattle.table_grids.proofs.checking.check_span.Given as goal

abbrev pub invariant-loop-row : goal.invariant-loop-row
invariant-loop-row g l = Passed l.entries l.row-index l.end l.zero
