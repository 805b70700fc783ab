use Rattle.memory_stores.specs.Extents.{flat_limit}
use Rattle.memory_stores.proofs.flat.flat_limit.Goals as goal

pub returns : goal.returns
unfolding flat_limit
returns c = cc
