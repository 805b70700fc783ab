use Rattle.std.proofs.Common.{rules}
use Rattle.memory_stores.proofs.OfFlat.{flat_row}
use Rattle.memory_stores.proofs.flat.Flat.places.Goals as goal

pub row-requires : goal.row-requires
row-requires g c =
    let s = c.args.self.now in
    let fits = flat_row g.E.Element.blank s.values.now s.marks.now s.width c.args.chunk c.requires in
    rw c.width.ensures (search rules)

pub returns-clause-within : goal.returns-clause-within
returns-clause-within g c =
    let s = c.args.self.now in
    rw (c.row.ensures.end, c.width.ensures) (flat_row g.E.Element.blank s.values.now s.marks.now s.width c.args.chunk c.requires)
