use Rattle.std.proofs.Common.{length, get_or, Ok, sym, refl, ap, ◌∙◌, arith, rules}
use Rattle.regular_grids.specs.LengthAxes.{axis_by}
use Rattle.regular_grids.proofs.LengthLaws.{new_refused, new_made, axes_same}
use Rattle.regular_grids.proofs.lengths.Lengths.new.Goals as goal

pub returns-in_err-places : goal.returns-in_err-places
returns-in_err-places c = λ rule.
    let few = c.in_ok-check_axes.ensures.few refl in
    rw (new_refused rule c.args.sizes.now c.args.edges.now (omega arith) (omega arith) c.loop-axis.axis (omega arith) c.loop-axis.invariant.positive (omega (arith, c.in_err-places.ensures.0)))
    (search rules)

pub returns : goal.returns
returns c = λ rule.
    let few = c.in_ok-check_axes.ensures.few refl in
    let n = c.loop-axis.invariant.long in
    ap Ok (axes_same (axis_by rule) (λ a. rule (get_or c.args.sizes.now a 0) (get_or c.args.edges.now a 0)) c.loop-axis.places 0 (length c.args.sizes.now) (omega arith)
    (λ k j d l e. let h = c.loop-axis.invariant.filled k d (omega arith) in rw (h.0, h.1) (search rules)))
    ∙ sym (new_made rule c.args.sizes.now c.args.edges.now (omega arith) (omega arith) (λ k l. c.loop-axis.invariant.positive k (omega arith)))
