use Rattle.std.proofs.Common.{◌*◌, get_or, sym, ap, ◌∙◌, arith}
use Rattle.grids.proofs.ProductLaws.{product_none, product_some, product_more, product_over, decided_yes, decided_no}
use Rattle.grids.proofs.products.product_within.Goals as goal

pub returns-then-has_zero : goal.returns-then-has_zero
returns-then-has_zero c = decided_yes (let z = product_none c.args.numbers.now (sym c.has_zero.ensures ∙ c.if-has_zero.true) in omega arith)

pub returns-then-limit-eq0 : goal.returns-then-limit-eq0
returns-then-limit-eq0 c = decided_no (λ q. let p = product_some c.args.numbers.now (sym c.has_zero.ensures ∙ c.if-has_zero.false) in omega arith)

pub returns-in_default : goal.returns-in_default
returns-in_default c =
    decided_no (product_over c.args.numbers.now c.loop-n.n-index c.loop-n.so_far c.args.limit (sym c.has_zero.ensures ∙ c.if-has_zero.false) (omega arith) c.loop-n.invariant.0
    (let e = c.in-Some.ensures.1 in omega arith))

pub returns-in_default-2 : goal.returns-in_default-2
returns-in_default-2 c =
    decided_no (product_over c.args.numbers.now c.loop-n.n-index c.loop-n.so_far c.args.limit (sym c.has_zero.ensures ∙ c.if-has_zero.false) (omega arith) c.loop-n.invariant.0
    (let f = c.ranges.limit.fits in omega (arith, c.in_default.ensures)))

pub loop-n-preserved : goal.loop-n-preserved
loop-n-preserved c = (
  c.in-Some.ensures.1 ∙ ap (λ m. m * get_or c.args.numbers.now c.loop-n.n-index 0) c.loop-n.invariant.0
      ∙ sym (product_more c.args.numbers.now c.loop-n.n-index (omega arith)),
  omega arith,
)
