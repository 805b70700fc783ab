use Rattle.std.proofs.Common.{rules}
use Rattle.memory_stores.specs.Extents.{pool_limit}
use Rattle.memory_stores.proofs.pool.PoolReadStore.limit.Goals as goal

pub returns-then-self-eq0 : goal.returns-then-self-eq0
unfolding pool_limit
returns-then-self-eq0 g c = search rules

pub returns-else-self-eq0 : goal.returns-else-self-eq0
unfolding pool_limit
returns-else-self-eq0 g c = search rules
