use Rattle.std.proofs.Common.{◌≡◌, ◌<◌, get_or, Some, Ok, Err, sym, ap, ◌∙◌, arith, rules}
use Rattle.grids.proofs.Making.{made_refused, made_all}
use Rattle.grids.proofs.Stored.{axes_alike}
use Rattle.table_grids.specs.declared.dimension.Dimension.TheVariants.{Fixed}
use Rattle.edges.specs.Refusals.{mapped}
use Rattle.grids.specs.Places.{refused_at}
use Rattle.table_grids.specs.Causes.{axis_cause}
use Rattle.table_grids.specs.TableAxes.{table_axes}
use Rattle.table_grids.specs.Spans.{axis_of}
use Rattle.table_grids.proofs.NewLaws.{cause_at, axis_at, none_of}
use Rattle.table_grids.proofs.table_grid.TableGrid.axis_by_axis.Goals as goal

pub returns-in_err-axis : goal.returns-in_err-axis
returns-in_err-axis g c =
    let f = c.in_err-axis.field-0.0 in
    let a = c.loop-a.a in
    let e : axis_cause g.R.SumRule.keeps c.args.table.now (get_or c.args.array_shape.now a 0) (get_or c.args.axes.now a (Fixed 0)) ≡ Some f.cause = search rules in
    let q : c.from_residual.result ≡ Err (refused_at f.cause a) = search rules in
    ap (mapped table_axes) q
    ∙ sym (made_refused _ (cause_at g.R.SumRule.keeps c.args.array_shape.now c.args.axes.now c.args.table.now) _ a f.cause (omega arith) (λ k l. none_of _ (c.loop-a.invariant.none_refused k l)) e)

pub returns : goal.returns
returns g c =
    ap Ok (axes_alike
    (λ k. axis_of c.args.table.now (get_or c.loop-a.sizes k 0) (get_or c.loop-a.dimensions k (Fixed 0)))
    (axis_at c.args.array_shape.now c.args.axes.now c.args.table.now) 0 _
    (λ k _ l. let h : k < c.loop-a.a = omega arith in rw (c.loop-a.invariant.same_sizes k h, c.loop-a.invariant.same_axes k h)))
    ∙ sym (made_all _ (cause_at g.R.SumRule.keeps c.args.array_shape.now c.args.axes.now c.args.table.now) _ (λ k l. none_of _ (c.loop-a.invariant.none_refused k (omega arith))))
