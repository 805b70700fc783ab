use Rattle.std.proofs.Common.{arith}
use Rattle.grids.proofs.RegionLaws.{chunks_ordered}
use Rattle.grids.proofs.axis.chunk_number.Goals as goal

pub overflow_sub-result : goal.overflow_sub-result
overflow_sub-result g c =
    (chunks_ordered _ (g.G.ChunkGrid.lawful c.args.grid.now) _ _ _ _ _ c.requires.0 c.in_ok-first.ensures c.in_ok-last.ensures).0

pub overflow_add-result : goal.overflow_add-result
overflow_add-result g c =
    let below = (chunks_ordered _ (g.G.ChunkGrid.lawful c.args.grid.now) _ _ _ _ _ c.requires.0 c.in_ok-first.ensures c.in_ok-last.ensures).1 in
    omega arith
