use Rattle.std.proofs.Common.{arith}
use Rattle.table_grids.proofs.Tables.{axis_below}
use Rattle.table_grids.proofs.answering.TableGridChunkGrid.origin.Goals as goal

pub overflow_cast-axis : goal.overflow_cast-axis
overflow_cast-axis g c =
    let few = c.args.self.now.few in
    let l = axis_below _ _ c.args.axis _ c.in-Some.ensures in
    omega arith
