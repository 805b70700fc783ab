use Rattle.std.proofs.Common.{◌<◌, ◌≤◌, ⊎_elim, rules}
use Rattle.std.proofs.lemmas.Bool.{cases_lt}
use Rattle.axes.specs.BoundedLaws.{chunk_bounded, chunk_past}
use Rattle.regular_grids.proofs.regular_bounded.BoundedEdgesEdgeRule.chunk_at.Goals as goal

pub returns : goal.returns
returns c =
    let x = c.args.sides in
    ⊎_elim
    (λ (l : c.args.index < x.size). let e = chunk_bounded x.size x.edge.number c.args.index x.edge.positive x.size_fits x.edge_fits l in search rules)
    (λ (l : x.size ≤ c.args.index). let e = chunk_past x.size x.edge.number c.args.index x.edge.positive l in search rules)
    (cases_lt c.args.index x.size)
