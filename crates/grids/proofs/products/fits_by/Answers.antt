use Rattle.std.proofs.Common.{sym, ◌∙◌}
use Rattle.axes.proofs.FitLaws.{fits_empty, fits_from, fits_counts, fits_cells}
use Rattle.grids.proofs.ProductLaws.{product_none, product_some}
use Rattle.std.proofs.lemmas.Bool.{both_ways}
use Rattle.grids.proofs.products.fits_by.Goals as goal

pub returns-then-has_zero : goal.returns-then-has_zero
returns-then-has_zero c = λ xs l.
    ((λ e. fits_empty xs _ _ l _ _ (product_none _ (sym c.has_zero.ensures ∙ e))), (λ w. c.if-has_zero.true))

pub returns-then-product_within : goal.returns-then-product_within
returns-then-product_within c = λ xs l. (
  (λ e. fits_from xs _ _ l _ _ (c.product_within.ensures.0 c.if-product_within.true) (c.product_within-then-product_within.ensures.0 e)),
  (λ w. c.product_within-then-product_within.ensures.1 (fits_cells xs _ _ l _ _ w (product_some _ (sym c.has_zero.ensures ∙ c.if-has_zero.false)))),
)

pub returns-else-product_within : goal.returns-else-product_within
returns-else-product_within c = λ xs l. (
  (λ e. absurd (both_ways _ c.if-product_within.false e)),
  (λ w. c.product_within.ensures.1 (fits_counts xs _ _ l _ _ w)),
)
