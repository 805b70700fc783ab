use Rattle.std.proofs.Common.{length, arith}
use Rattle.memory_stores.specs.Extents.{pool_slots_small}
use Rattle.memory_stores.proofs.pool.Pool.directory.Goals as goal

pub shared_ref_as_front-result : goal.shared_ref_as_front-result
shared_ref_as_front-result g c = omega (arith, pool_slots_small c.args.self.now.width (length c.args.self.now.values.now))
