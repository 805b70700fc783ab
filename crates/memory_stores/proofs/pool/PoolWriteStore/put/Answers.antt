use Rattle.std.proofs.Common.{◌≡◌, ◌-◌, ◌<◌, Ok, refl, arith}
use Rattle.memory_stores.specs.Meanings.{pool_means, room_answer}
use Rattle.memory_stores.proofs.OfPool.{pool_put}
use Rattle.memory_stores.proofs.Writing.{put_in_room}
use Rattle.memory_stores.proofs.pool.PoolWriteStore.put.Goals as goal

pub returns-clause-after : goal.returns-clause-after
returns-clause-after g c =
    let v = g.E.Element.blank in
    let s = c.args.self.now in
    let t = c.slot_for.new.self in
    let h = pool_means v s in
    let inside = c.in_ok-in_store.ensures.below refl in
    let a : c.args.chunk < h.limit = omega arith in
    let b : c.args.place < h.width = omega arith in
    let room : Ok tt ≡ room_answer h c.args.chunk = c.in_ok-slot.ensures.answer in
    let i = c.places-places.result.start in
    pool_put v t.values.now t.entries t.width t.limit h c.args.chunk c.args.place c.in_ok-slot.slot c.in_ok-slot.ensures.after c.in_ok-slot.ensures.slot a b c.args.value i (c.places-places.result.end - i)
    c.places-places.ensures.row.start
    (omega arith)
    (put_in_room h c.args.chunk c.args.place a b room)
