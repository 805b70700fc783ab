use Rattle.std.proofs.Common.{◌≡◌, ◌-◌, ◌<◌, ◌≤◌, length, take, drop, replicate, Some, None, ap, ◌∙◌, arith, rules}
use Rattle.std.proofs.lemmas.List.{length-drop, length-take-le}
use Rattle.memory_stores.specs.Entries.{slot_of, vacant}
use Rattle.memory_stores.specs.Extents.{pool_limit, pool_slots, pool_slots_small}
use Rattle.memory_stores.specs.Meanings.{slots_in}
use Rattle.memory_stores.proofs.OfPool.{vacant_below, room_full, room_left, slot_now, pool_chunk}
use Rattle.memory_stores.proofs.pool.Pool.slot_for.Goals as goal

pub returns-in_err-slot-clause-answer : goal.returns-in_err-slot-clause-answer
returns-in_err-slot-clause-answer g c =
    let s = c.args.self.now in
    let none : slot_of (slots_in s) c.args.chunk ≡ None = cc in
    let e : vacant (slots_in s) (pool_limit s.width s.limit) ≡ None = search rules in
    let few = pool_slots_small s.width (length s.values.now) in
    let long : length s.entries ≡ 256 = search rules in
    let full = room_full g.E.Element.blank s.values.now s.entries s.width s.limit c.args.chunk c.requires none (omega arith) e in
    search rules

pub offset_bounds-self-slot : goal.offset_bounds-self-slot
offset_bounds-self-slot g c =
    let s = c.args.self.now in
    let none : slot_of (slots_in s) c.args.chunk ≡ None = cc in
    let e : vacant (slots_in s) (pool_limit s.width s.limit) ≡ Some c.in_ok-slot.slot = search rules in
    let few = pool_slots_small s.width (length s.values.now) in
    let long : length s.entries ≡ 256 = search rules in
    let below = vacant_below g.E.Element.blank s.values.now s.entries s.width s.limit c.args.chunk c.requires none (omega arith) c.in_ok-slot.slot e in
    let h : c.in_ok-slot.slot < 256 = omega arith in
    search rules

pub bounds-self-slot : goal.bounds-self-slot
bounds-self-slot g c =
    let s = c.args.self.now in
    let none : slot_of (slots_in s) c.args.chunk ≡ None = cc in
    let e : vacant (slots_in s) (pool_limit s.width s.limit) ≡ Some c.in_ok-slot.slot = search rules in
    let few = pool_slots_small s.width (length s.values.now) in
    let long : length s.entries ≡ 256 = search rules in
    let below = vacant_below g.E.Element.blank s.values.now s.entries s.width s.limit c.args.chunk c.requires none (omega arith) c.in_ok-slot.slot e in
    omega arith

pub places-places-requires : goal.places-places-requires
places-places-requires g c =
    let s = c.args.self.now in
    let none : slot_of (slots_in s) c.args.chunk ≡ None = cc in
    let e : vacant (slots_in s) (pool_limit s.width s.limit) ≡ Some c.in_ok-slot.slot = search rules in
    let few = pool_slots_small s.width (length s.values.now) in
    let long : length s.entries ≡ 256 = search rules in
    vacant_below g.E.Element.blank s.values.now s.entries s.width s.limit c.args.chunk c.requires none (omega arith) c.in_ok-slot.slot e

pub returns : goal.returns
returns g c =
    let v = g.E.Element.blank in
    let s = c.args.self.now in
    let xs = s.values.now in
    let none : slot_of (slots_in s) c.args.chunk ≡ None = cc in
    let slot = c.in_ok-slot.slot in
    let e : vacant (slots_in s) (pool_limit s.width s.limit) ≡ Some slot = search rules in
    let few = pool_slots_small s.width (length xs) in
    let long : length s.entries ≡ 256 = search rules in
    let enough : pool_slots s.width (length xs) ≤ length s.entries = omega arith in
    let i = c.places-places.result.start in
    let k = c.places-places.result.end - i in
    let at = c.places-places.ensures.row in
    let wide : length (take k (drop i xs)) ≡ k = omega (arith, length-take-le k (drop i xs) (omega (arith, length-drop i xs))) in
    let row : c.clear.new.row ≡ replicate k v = c.clear.ensures ∙ ap (λ n. replicate n v) wide in
    record {
      answer = room_left v xs s.entries s.width s.limit c.args.chunk c.requires none enough slot e;
      slot = slot_now v xs s.entries s.width s.limit c.args.chunk c.requires none enough slot e i k c.clear.new.row at.start (omega arith) row;
      after = pool_chunk v xs s.entries s.width s.limit c.args.chunk c.requires none enough slot e i k c.clear.new.row at.start (omega arith) row;
      refused = tt;
    }
