use Rattle.std.proofs.Common.{refl, rules}
use Rattle.axes.specs.Axes.{fixed}
use Rattle.axes.specs.AxisLaws.{origin_constant}
use Rattle.grids.proofs.Asked.{within_fits, within_over}
use Rattle.table_grids.proofs.table_axis.TableAxis.origin.Goals as goal

pub returns-in_err-origin-in-Equal : goal.returns-in_err-origin-in-Equal
returns-in_err-origin-in-Equal c =
    let e = c.in-Equal.edge.number in
    let o = origin_constant (fixed c.in-Equal.size e) e (λ k. refl) c.args.chunk in
    rw (c.in-Equal.is, o) (search (rules, within_over))

pub returns-in_ok-origin-in-Equal : goal.returns-in_ok-origin-in-Equal
returns-in_ok-origin-in-Equal c =
    let e = c.in-Equal.edge.number in
    let o = origin_constant (fixed c.in-Equal.size e) e (λ k. refl) c.args.chunk in
    rw (c.in-Equal.is, o) (search (rules, within_fits))
