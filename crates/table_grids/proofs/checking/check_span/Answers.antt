use Rattle.std.proofs.Common.{is_some, refl, ap, ◌∙◌, arith, rules}
use Rattle.std.proofs.lemmas.Bool.{cond-false}
use Rattle.table_grids.specs.Causes.{laid}
use Rattle.table_grids.specs.Valid.{valid_span}
use Rattle.table_grids.proofs.Entries.{passed_more, broken, cause_is, cause_none, cause_some}
use Rattle.table_grids.proofs.checking.check_span.Goals as goal

pub returns-then-row-end : goal.returns-then-row-end
returns-then-row-end g c =
    cond-false (laid 0 c.args.entries.now) _ _ (broken _ c.loop-row.row-index c.loop-row.end c.loop-row.zero c.loop-row.invariant (omega arith) c.if-row-end.true)

pub loop-row-preserved : goal.loop-row-preserved
loop-row-preserved g c =
    passed_more _ c.loop-row.row-index c.loop-row.end c.loop-row.zero c.loop-row.invariant (omega arith) _ c.if-row-end.false (omega arith) refl

pub returns-in_err-check_sum : goal.returns-in_err-check_sum
returns-in_err-check_sum g c =
    let e = cause_is _ c.loop-row.row-index c.loop-row.end c.loop-row.zero c.loop-row.invariant (omega arith) g.R.SumRule.keeps c.args.size in
    let h = cause_some _ _ c.in_err-check_sum.ensures in
    rw e (search rules)

pub invariant_of-result : goal.invariant_of-result
invariant_of-result g c =
    let e = cause_is _ c.loop-row.row-index c.loop-row.end c.loop-row.zero c.loop-row.invariant (omega arith) g.R.SumRule.keeps c.args.size in
    let v = valid_span g.R.SumRule.keeps g.R.SumRule.reaches c.args.size c.args.entries.now (ap is_some (e ∙ cause_none _ c.in_ok-check_sum.ensures)) in
    record { offsets = v.offsets; positive = v.positive; end_fits = v.end_fits; reaches = v.reaches }

pub returns : goal.returns
returns g c =
    let e = cause_is _ c.loop-row.row-index c.loop-row.end c.loop-row.zero c.loop-row.invariant (omega arith) g.R.SumRule.keeps c.args.size in
    (e ∙ cause_none _ c.in_ok-check_sum.ensures, refl, refl)
