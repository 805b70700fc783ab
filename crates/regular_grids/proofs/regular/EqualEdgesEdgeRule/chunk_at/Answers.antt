use Rattle.std.proofs.Common.{sym}
use Rattle.axes.specs.AxisLaws.{chunk_fixed}
use Rattle.regular_grids.proofs.regular.EqualEdgesEdgeRule.chunk_at.Goals as goal

pub returns : goal.returns
returns c =
    let x = c.args.sides in
    rw c.get.ensures (sym (chunk_fixed x.size x.edge.number c.args.index x.edge.positive x.size_fits x.edge_fits))
