use Rattle.std.proofs.Common.{◌≡◌, length, take, ap, rules, arith}
use Rattle.std.proofs.lemmas.List.{length-take}
use Rattle.regular_grids.proofs.LengthLaws.{longest_of}
use Rattle.regular_grids.proofs.length_grid.LengthGridChunkGrid.fits.Goals as goal

pub returns : goal.returns
returns g c =
    let x = c.args.self.now.lengths in
    let few = x.few in
    let n = c.loop-axis.invariant.long in
    let m = ap length c.axes-lengths-items.ensures in
    let t : length (take x.number x.places) ≡ x.number = simp length-take (omega arith) in
    c.fits_by.ensures _ (longest_of g.R.EdgeRule.axis x.places _ _ x.number (search rules) (omega arith) (omega arith) (λ k d l. c.loop-axis.invariant.told k d (omega arith)))
