use Rattle.std.proofs.Common.{sym, arith}
use Rattle.table_grids.proofs.Tables.{chunk_equal}
use Rattle.table_grids.proofs.table_axis.TableAxis.chunk_at.Goals as goal

pub returns-in-Equal : goal.returns-in-Equal
returns-in-Equal c =
    let e = c.in-Equal.edge in
    rw (c.in-Equal.is, c.get.ensures) (sym (chunk_equal c.in-Equal.size e.number c.args.index e.positive (omega arith)))
