use Rattle.std.proofs.Common.{length, refl, arith}
use Rattle.memory_stores.specs.Extents.{flat_marks}
use Rattle.memory_stores.proofs.flat.FlatReadStore.get.Goals as goal

pub bounds-self-chunk : goal.bounds-self-chunk
bounds-self-chunk g c =
    let s = c.args.self.now in
    let inside = c.in_ok-in_store.ensures.below refl in
    omega (arith, flat_marks s.width (length s.values.now) (length s.marks.now))
