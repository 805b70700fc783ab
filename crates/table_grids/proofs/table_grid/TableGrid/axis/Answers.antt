use Rattle.std.proofs.Common.{◌≡◌, ◌+◌, ◌-◌, get_or, Some, sym, ap, ◌∙◌, subst, arith, rules}
use Rattle.axes.specs.Axes.{varying}
use Rattle.grids.proofs.Asked.{nth_here, nth_past}
use Rattle.table_grids.specs.Spans.{span, sizes, axis_of}
use Rattle.table_grids.specs.Valid.{ValidSpan}
use Rattle.table_grids.proofs.Tables.{described}
use Rattle.table_grids.proofs.table_grid.TableGrid.axis.Goals as goal

pub returns-then-axis-self : goal.returns-then-axis-self
returns-then-axis-self g c = sym (nth_past _ _ _ c.if-axis-self.true)

pub invariant_of-result : goal.invariant_of-result
invariant_of-result g c =
    let x = c.args.self.now in
    let v = described g.R.SumRule.keeps g.R.SumRule.reaches x.table.now x.number x.array_shape x.axes x.none_refused c.args.axis c.if-axis-self.false _ c.in-Fixed.is in
    record { positive = v }

pub overflow_add-result : goal.overflow_add-result
overflow_add-result g c =
    let x = c.args.self.now in
    let s = x.short in
    let v = described g.R.SumRule.keeps g.R.SumRule.reaches x.table.now x.number x.array_shape x.axes x.none_refused c.args.axis c.if-axis-self.false _ c.in-Varying.is in
    search rules

pub offset_bounds-self-first : goal.offset_bounds-self-first
offset_bounds-self-first g c =
    let x = c.args.self.now in
    let s = x.short in
    let v = described g.R.SumRule.keeps g.R.SumRule.reaches x.table.now x.number x.array_shape x.axes x.none_refused c.args.axis c.if-axis-self.false _ c.in-Varying.is in
    search rules

pub slice_bounds-result-end : goal.slice_bounds-result-end
slice_bounds-result-end g c =
    let x = c.args.self.now in
    let v = described g.R.SumRule.keeps g.R.SumRule.reaches x.table.now x.number x.array_shape x.axes x.none_refused c.args.axis c.if-axis-self.false _ c.in-Varying.is in
    search rules

pub invariant_of-result-in-Varying : goal.invariant_of-result-in-Varying
invariant_of-result-in-Varying g c =
    let x = c.args.self.now in
    let v = described g.R.SumRule.keeps g.R.SumRule.reaches x.table.now x.number x.array_shape x.axes x.none_refused c.args.axis c.if-axis-self.false _ c.in-Varying.is in
    let e : c.in-Varying.first + c.in-Varying.number - c.in-Varying.first ≡ c.in-Varying.number = omega arith in
    let w = subst (λ m. ValidSpan (get_or x.array_shape c.args.axis 0) (span x.table.now c.in-Varying.first m)) (sym e) v.1 in
    record { offsets = w.offsets; positive = w.positive; end_fits = w.end_fits; reaches = w.reaches }

pub returns-in-Fixed : goal.returns-in-Fixed
returns-in-Fixed g c =
    let x = c.args.self.now in
    sym (nth_here _ _ _ c.if-axis-self.false ∙ ap (λ d. Some (axis_of x.table.now (get_or x.array_shape c.args.axis 0) d)) c.in-Fixed.is)

pub returns-in-Varying : goal.returns-in-Varying
returns-in-Varying g c =
    let x = c.args.self.now in
    let e : c.in-Varying.first + c.in-Varying.number - c.in-Varying.first ≡ c.in-Varying.number = omega arith in
    ap (λ m. Some (varying (get_or x.array_shape c.args.axis 0) (sizes (span x.table.now c.in-Varying.first m)))) e
    ∙ sym (nth_here _ _ _ c.if-axis-self.false ∙ ap (λ d. Some (axis_of x.table.now (get_or x.array_shape c.args.axis 0) d)) c.in-Varying.is)
