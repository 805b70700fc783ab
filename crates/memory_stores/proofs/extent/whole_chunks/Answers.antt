use Rattle.std.proofs.Common.{rules}
use Rattle.memory_stores.specs.Extents.{archive_limit}
use Rattle.memory_stores.proofs.extent.whole_chunks.Goals as goal

pub returns : goal.returns
unfolding archive_limit
returns c = search rules
