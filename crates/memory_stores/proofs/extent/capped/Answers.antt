use Rattle.memory_stores.specs.Extents.{capped}
use Rattle.memory_stores.proofs.extent.capped.Goals as goal

pub returns : goal.returns
unfolding capped
returns c = c.min.ensures
