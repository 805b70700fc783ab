use Rattle.std.proofs.Common.{get_or, ◌∙◌, arith}
use Rattle.table_grids.specs.declared.dimension.Dimension.TheVariants.{Fixed}
use Rattle.table_grids.specs.Spans.{axis_of}
use Rattle.table_grids.proofs.Tables.{read_axis}
use Rattle.table_grids.proofs.answering.TableGridChunkGrid.chunks.Goals as goal

pub returns : goal.returns
returns g c =
    let x = c.args.self.now in
    let few = x.few in
    c.copied.ensures
    ∙ read_axis (λ a. axis_of x.table.now (get_or x.array_shape a 0) (get_or x.axes a (Fixed 0))) (λ y. y.count) x.grid_shape x.number c.args.axis (omega arith) x.counts_are
    _ c.get.ensures.lookup
