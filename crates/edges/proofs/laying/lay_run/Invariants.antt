use Rattle.edges.proofs.LayLaws.{Filling}
use Rattle.edges.proofs.laying.lay_run.Given as goal

abbrev pub invariant-loop-row : goal.invariant-loop-row
invariant-loop-row l = Filling l.offset l.edge.number l.row-index l.next l.place
