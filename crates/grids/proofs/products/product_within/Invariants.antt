use Rattle.std.proofs.Common.{◌≡◌, ◌≤◌, take}
use Rattle.axes.specs.Fitting.{product}
use Rattle.grids.proofs.products.product_within.Given as goal

abbrev pub invariant-loop-n : goal.invariant-loop-n
invariant-loop-n l = (l.so_far ≡ product (take l.n-index l.numbers)) × (l.so_far ≤ l.limit)
