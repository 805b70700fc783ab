use Rattle.edges.proofs.JoinLaws.{Joining}
use Rattle.edges.proofs.compressing.number_of_runs.Given as goal

abbrev pub invariant-loop-length : goal.invariant-loop-length
invariant-loop-length l = Joining l.edges l.length-index l.number l.edge.number
