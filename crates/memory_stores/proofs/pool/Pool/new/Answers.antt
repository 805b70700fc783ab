use Rattle.std.proofs.Common.{replicate}
use Rattle.memory_stores.specs.Entries.{no_entry}
use Rattle.memory_stores.proofs.OfPool.{pool_empty, unused}
use Rattle.memory_stores.proofs.pool.Pool.new.Goals as goal

pub returns-clause-held : goal.returns-clause-held
returns-clause-held g c =
    pool_empty g.E.Element.blank c.args.values.now (replicate 256 no_entry) c.args.width c.args.limit (unused 256)
