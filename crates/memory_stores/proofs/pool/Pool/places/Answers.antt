use Rattle.std.proofs.Common.{rules}
use Rattle.memory_stores.proofs.OfPool.{pool_row}
use Rattle.memory_stores.proofs.pool.Pool.places.Goals as goal

pub row-requires : goal.row-requires
row-requires g c =
    let s = c.args.self.now in
    let fits = pool_row g.E.Element.blank s.values.now s.entries s.width s.limit c.args.slot c.requires in
    rw c.width.ensures (search rules)

pub returns-clause-within : goal.returns-clause-within
returns-clause-within g c =
    let s = c.args.self.now in
    rw (c.row.ensures.end, c.width.ensures) (pool_row g.E.Element.blank s.values.now s.entries s.width s.limit c.args.slot c.requires)
