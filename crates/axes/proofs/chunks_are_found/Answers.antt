use Rattle.axes.specs.ChunkLaws.{one_chunk, chunk_of-Contains, chunk_contains, covered}
use Rattle.std.proofs.Common.{arith}
use Rattle.axes.proofs.chunks_are_found.Goals as goal

pub returns : goal.returns
returns c = λ x l. (
  one_chunk x,
  (λ i k. (chunk_of-Contains x i k, chunk_contains x l i k)),
  (λ i h. covered x x.count i l.counted (let b = l.covers in omega arith)),
)
