use Rattle.std.proofs.Common.{◌≡◌, ◌-◌, get_or, sym, subst, arith}
use Rattle.axes.specs.Fitting.{LongestIn}
use Rattle.axes.proofs.FitLaws.{longest_by}
use Rattle.table_grids.specs.declared.dimension.Dimension.TheVariants.{Fixed}
use Rattle.table_grids.specs.Spans.{axis_of}
use Rattle.table_grids.proofs.LongestLaws.{longest_is}
use Rattle.table_grids.proofs.answering.TableGridChunkGrid.fits.Goals as goal

pub returns : goal.returns
returns g c =
    let x = c.args.self.now in
    let few = x.few in
    let z : x.number - 0 ≡ x.number = omega arith in
    c.fits_by.ensures _ (rw z at (longest_by (λ a. axis_of x.table.now (get_or x.array_shape a 0) (get_or x.axes a (Fixed 0))) x.grid_shape x.longest x.number (omega arith) (omega arith)
    (λ a l. (x.counts_are a l, subst (LongestIn (axis_of x.table.now (get_or x.array_shape a 0) (get_or x.axes a (Fixed 0)))) (sym (x.longest_are a l)) (longest_is x.table.now _ (get_or x.axes a (Fixed 0)))))))
