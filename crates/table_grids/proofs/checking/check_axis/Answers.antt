use Rattle.std.proofs.Common.{◌≡◌, ◌+◌, ◌-◌, leb, length, Some, sym, ap, ◌∙◌, arith, rules}
use Rattle.std.proofs.lemmas.Bool.{cond-true, le-leb}
use Rattle.table_grids.specs.Spans.{span}
use Rattle.table_grids.specs.Causes.{entries_cause, axis_cause}
use Rattle.table_grids.proofs.checking.check_axis.Goals as goal

pub returns-in_err-span-in-Varying : goal.returns-in_err-span-in-Varying
returns-in_err-span-in-Varying g c =
    let t = c.args.table.now in
    let first = c.in-Varying.first in
    let number = c.in-Varying.number in
    let keeps = g.R.SumRule.keeps in
    let e : first + number - first ≡ number = omega arith in
    let q : axis_cause keeps t c.args.size c.args.dimension ≡ Some c.in_err-span-in-Varying.field-0.0 =
    ap (axis_cause keeps t c.args.size) c.in-Varying.is
    ∙ cond-true (leb (first + number) (length t)) _ _ (le-leb (first + number) (length t) (omega arith))
    ∙ ap (λ m. entries_cause keeps c.args.size (span t first m)) (sym e)
    ∙ c.in_err-span-in-Varying.ensures in
    search rules
