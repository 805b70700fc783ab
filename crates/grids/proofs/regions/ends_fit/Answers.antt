use Rattle.std.proofs.Common.{length, Ok, Err, sym, ap, ◌∙◌, arith}
use Rattle.std.proofs.lemmas.Result.{err_from_is_err_and}
use Rattle.edges.specs.declared.fault.Cause.TheVariants.{Overflow}
use Rattle.grids.specs.Making.{unless}
use Rattle.grids.specs.Answers.{beyond}
use Rattle.grids.proofs.Making.{no_fault, fault_at}
use Rattle.grids.proofs.RegionLaws.{beyond_at, sum_refused}
use Rattle.grids.proofs.regions.ends_fit.Goals as goal

pub returns-in_err-ok_or : goal.returns-in_err-ok_or
returns-in_err-ok_or c =
    let p = err_from_is_err_and c.from_residual.result c.from_residual.ensures.1 in
    let q = sum_refused _ _ _ c.in_err-ok_or.field-0.0 c.checked_add-end.ensures c.in_err-ok_or.ensures.value in
    p.1 ∙ ap Err (p.2 ∙ q.1 ∙ c.on_axis.ensures)
    ∙ sym (ap (λ o. unless {B = Unit {0}} o (Ok tt)) (fault_at (beyond c.args.start.now c.args.shape.now) _ c.loop-axis.axis Overflow (omega arith) c.loop-axis.invariant
    (beyond_at _ _ c.loop-axis.axis q.0)))

pub returns : goal.returns
returns c =
    sym (ap (λ o. unless {B = Unit {0}} o (Ok tt)) (no_fault (beyond c.args.start.now c.args.shape.now) (length c.args.shape.now) (λ k l. c.loop-axis.invariant k (omega arith))))
