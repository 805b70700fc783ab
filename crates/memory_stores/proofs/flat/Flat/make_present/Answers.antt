use Rattle.std.proofs.Common.{◌≡◌, ◌-◌, length, take, drop, replicate, ap, ◌∙◌, arith}
use Rattle.std.proofs.lemmas.List.{length-drop, length-take-le}
use Rattle.memory_stores.specs.Extents.{flat_marks}
use Rattle.memory_stores.proofs.OfFlat.{flat_chunk}
use Rattle.memory_stores.proofs.flat.Flat.make_present.Goals as goal

pub bounds-self-chunk : goal.bounds-self-chunk
bounds-self-chunk g c =
    let s = c.args.self.now in
    omega (arith, flat_marks s.width (length s.values.now) (length s.marks.now))

pub bounds-self-chunk-2 : goal.bounds-self-chunk-2
bounds-self-chunk-2 g c =
    let s = c.args.self.now in
    omega (arith, flat_marks s.width (length s.values.now) (length s.marks.now))

pub returns : goal.returns
returns g c =
    let v = g.E.Element.blank in
    let s = c.args.self.now in
    let xs = s.values.now in
    let i = c.places-places.result.start in
    let k = c.places-places.result.end - i in
    let at = c.places-places.ensures.row in
    let long : length (take k (drop i xs)) ≡ k = omega (arith, length-take-le k (drop i xs) (omega (arith, length-drop i xs))) in
    flat_chunk v xs s.marks.now s.width c.args.chunk c.requires c.if-self-chunk.false i k c.clear.new.row at.start (omega arith)
    (c.clear.ensures ∙ ap (λ n. replicate n v) long)
