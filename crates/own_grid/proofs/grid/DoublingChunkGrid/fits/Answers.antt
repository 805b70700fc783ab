use Rattle.std.proofs.Common.{ℕ, ◌^◌, sym, ap, ◌∙◌, subst}
use Rattle.axes.specs.Fitting.{LongestIn}
use Rattle.own_grid.specs.DoublingAxes.{doubling, doubling_axes}
use Rattle.own_grid.proofs.DoublingLaws.{doubling_longest}
use Rattle.own_grid.proofs.grid.DoublingChunkGrid.fits.Goals as goal

pub returns : goal.returns
returns c =
    c.fits_by.ensures (doubling_axes c.args.self.now)
    (c.from.ensures, subst (LongestIn (doubling c.args.self.now.number)) (sym (c.pow.ensures ∙ ap (λ (k : ℕ). 2 ^ k) c.saturating_sub.ensures)) (doubling_longest _), tt)
