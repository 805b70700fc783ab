use Rattle.edges.proofs.RunLaws.{Counted}
use Rattle.edges.proofs.laying.number_of_edges.Given as goal

abbrev pub invariant-loop-run : goal.invariant-loop-run
invariant-loop-run l = Counted l.runs l.run-index l.sum l.number
