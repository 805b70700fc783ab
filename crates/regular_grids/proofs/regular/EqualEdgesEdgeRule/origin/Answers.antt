use Rattle.std.proofs.Common.{refl, rules}
use Rattle.axes.specs.Axes.{fixed}
use Rattle.axes.specs.AxisLaws.{origin_constant}
use Rattle.grids.proofs.Asked.{within_fits, within_over}
use Rattle.regular_grids.proofs.regular.EqualEdgesEdgeRule.origin.Goals as goal

pub returns-in_err-origin : goal.returns-in_err-origin
returns-in_err-origin c =
    let x = c.args.sides in
    let o = origin_constant (fixed x.size x.edge.number) x.edge.number (λ k. refl) c.args.chunk in
    rw o (search (rules, within_over))

pub returns : goal.returns
returns c =
    let x = c.args.sides in
    let o = origin_constant (fixed x.size x.edge.number) x.edge.number (λ k. refl) c.args.chunk in
    rw o (search (rules, within_fits))
