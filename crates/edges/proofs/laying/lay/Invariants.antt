use Rattle.edges.proofs.LayLaws.{Laying}
use Rattle.edges.proofs.laying.lay.Given as goal

abbrev pub invariant-loop-run : goal.invariant-loop-run
invariant-loop-run l = Laying l.runs l.initial.table l.run-index l.at l.offset l.table
