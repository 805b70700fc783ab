use Rattle.edges.proofs.JoinLaws.{Writing}
use Rattle.edges.proofs.compressing.write_runs.Given as goal

abbrev pub invariant-loop-next : goal.invariant-loop-next
invariant-loop-next l = Writing l.edges l.initial.place l.next-index l.group.edge.number l.group.count.number l.at l.place
