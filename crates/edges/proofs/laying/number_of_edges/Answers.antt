use Rattle.std.proofs.Common.{Err, ap, ◌∙◌, arith}
use Rattle.std.proofs.lemmas.Result.{err_from_is_err_and}
use Rattle.edges.proofs.RunLaws.{counted_more, counted_zero, counted_over, counted_all}
use Rattle.edges.proofs.laying.number_of_edges.Goals as goal

pub returns-in_err-edge : goal.returns-in_err-edge
returns-in_err-edge c =
    let p = err_from_is_err_and c.from_residual.result c.from_residual.ensures.1 in
    let q = counted_zero c.args.runs.now c.loop-run.run-index c.loop-run.sum c.loop-run.number c.loop-run.invariant (omega arith) c.in_err-edge.field-0.0 c.in_err-edge.ensures in
    let e = p.1 in
    let f = p.2 in
    cc

pub loop-run-preserved : goal.loop-run-preserved
loop-run-preserved c =
    counted_more c.args.runs.now c.loop-run.run-index c.loop-run.sum c.loop-run.number c.loop-run.invariant (omega arith)
    c.in_ok-edge.field-0.edge.number c.in_ok-edge.field-0.count.number c.saturating_add-sum.result c.saturating_add-number.result
    c.in_ok-edge.ensures (let a = c.get.ensures in let b = c.get-in-loop-run.ensures in let s = c.saturating_add-sum.ensures in cc)
    (let a = c.get-in-loop-run-2.ensures in let s = c.saturating_add-number.ensures in cc)

pub returns-then-sum : goal.returns-then-sum
returns-then-sum c =
    ap Err c.new.ensures ∙ counted_over c.args.runs.now c.loop-run.run-index c.loop-run.sum c.loop-run.number c.loop-run.invariant (omega arith) (omega arith)

pub returns : goal.returns
returns c =
    counted_all c.args.runs.now c.loop-run.run-index c.loop-run.sum c.loop-run.number c.loop-run.invariant (omega arith) (omega arith)
