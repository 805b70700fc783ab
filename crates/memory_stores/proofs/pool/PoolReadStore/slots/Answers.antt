use Rattle.memory_stores.specs.Extents.{pool_slots}
use Rattle.memory_stores.proofs.pool.PoolReadStore.slots.Goals as goal

pub returns : goal.returns
unfolding pool_slots
returns g c = cc
