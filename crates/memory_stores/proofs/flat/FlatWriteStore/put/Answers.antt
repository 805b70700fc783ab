use Rattle.std.proofs.Common.{◌≡◌, ◌-◌, ◌<◌, Ok, refl, arith}
use Rattle.stores.specs.Held.{put_answer}
use Rattle.memory_stores.specs.Meanings.{flat_means}
use Rattle.memory_stores.proofs.OfFlat.{flat_room, flat_put}
use Rattle.memory_stores.proofs.Writing.{put_in_room}
use Rattle.memory_stores.proofs.flat.FlatWriteStore.put.Goals as goal

pub returns : goal.returns
returns g c =
    let v = g.E.Element.blank in
    let s = c.args.self.now in
    let t = c.make_present.new.self in
    let h = flat_means v s in
    let inside = c.in_ok-in_store.ensures.below refl in
    let a : c.args.chunk < h.limit = omega arith in
    let b : c.args.place < h.width = omega arith in
    let at = c.places-places.ensures.row in
    let i = c.places-places.result.start in
    let ok : Ok tt ≡ put_answer h c.args.chunk c.args.place =
    put_in_room h c.args.chunk c.args.place a b (flat_room v s.values.now s.marks.now s.width c.args.chunk a) in
    record {
      answer = ok;
      after =
          flat_put v t.values.now t.marks.now t.width h c.args.chunk c.args.place c.make_present.ensures a b c.args.value i (c.places-places.result.end - i)
          at.start
          (omega arith)
          ok;
      refused = tt;
    }
