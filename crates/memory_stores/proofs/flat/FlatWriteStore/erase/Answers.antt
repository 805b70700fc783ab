use Rattle.std.proofs.Common.{length, arith}
use Rattle.memory_stores.specs.Extents.{flat_marks}
use Rattle.memory_stores.specs.Meanings.{flat_means}
use Rattle.memory_stores.proofs.OfFlat.{flat_erase}
use Rattle.memory_stores.proofs.Writing.{answered_below}
use Rattle.memory_stores.proofs.flat.FlatWriteStore.erase.Goals as goal

pub bounds-self-chunk : goal.bounds-self-chunk
bounds-self-chunk g c =
    let s = c.args.self.now in
    let below = answered_below (flat_means g.E.Element.blank s) c.args.chunk _ c.in_ok-was.ensures in
    omega (arith, flat_marks s.width (length s.values.now) (length s.marks.now))

pub returns-clause-after : goal.returns-clause-after
returns-clause-after g c =
    let v = g.E.Element.blank in
    let s = c.args.self.now in
    flat_erase v s.values.now s.marks.now s.width c.args.chunk (answered_below (flat_means v s) c.args.chunk _ c.in_ok-was.ensures)
