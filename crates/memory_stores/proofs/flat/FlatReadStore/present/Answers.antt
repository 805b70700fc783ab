use Rattle.std.proofs.Common.{length, refl, arith}
use Rattle.memory_stores.specs.Extents.{flat_marks}
use Rattle.memory_stores.proofs.flat.FlatReadStore.present.Goals as goal

pub bounds-self-chunk : goal.bounds-self-chunk
bounds-self-chunk g c =
    let a = c.in_ok-in_range.ensures.below refl in
    omega (arith, flat_marks c.args.self.now.width (length c.args.self.now.values.now) (length c.args.self.now.marks.now))
