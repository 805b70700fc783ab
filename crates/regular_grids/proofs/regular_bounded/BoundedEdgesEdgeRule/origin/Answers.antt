use Rattle.regular_grids.proofs.BoundedAnswers.{origin_start}
use Rattle.regular_grids.proofs.regular_bounded.BoundedEdgesEdgeRule.origin.Goals as goal

pub returns : goal.returns
returns c = rw c.start.ensures (origin_start _ _ _ c.args.sides.edge.positive c.args._axis_number c.args.sides.size_fits)
