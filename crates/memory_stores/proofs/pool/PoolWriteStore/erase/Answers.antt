use Rattle.std.proofs.Common.{◌≡◌, ◌<◌, ◌≤◌, ◌++◌, true, false, length, take, drop, is_some, Ok, sym, refl, ap, ◌∙◌, arith, rules}
use Rattle.std.specs.List.{list_any}
use Rattle.std.proofs.lemmas.Bool.{lt-ltb}
use Rattle.std.proofs.lemmas.List.{take_all, drop_all, append-nil}
use Rattle.memory_stores.specs.Entries.{entry, names, no_entry, slot_of, released}
use Rattle.memory_stores.specs.Extents.{pool_slots_small}
use Rattle.memory_stores.specs.Meanings.{pool_means, slots_in}
use Rattle.memory_stores.proofs.OfPool.{pool_erase}
use Rattle.memory_stores.proofs.Slots.{let_go_turn, found_turn}
use Rattle.memory_stores.specs.Named.{position_any}
use Rattle.std.proofs.Math.Bool.{or-false, or-true}
use Rattle.memory_stores.proofs.pool.PoolWriteStore.erase.Goals as goal
use Rattle.memory_stores.proofs.pool.PoolWriteStore.erase.Goals.{then-eq, else-eq}

pub slice_bounds-entry-items-end : goal.slice_bounds-entry-items-end
slice_bounds-entry-items-end g c =
    let few : c.slots-slots.result ≤ 256 = omega (arith, pool_slots_small c.args.self.now.width (length c.args.self.now.values.now)) in
    search rules

pub loop-entry-preserved : goal.loop-entry-preserved
loop-entry-preserved g c =
    let xs = take c.slots-slots.result c.args.self.now.entries in
    let ys = c.loop-entry.entry-items in
    let i = c.loop-entry.entry-index in
    let chunk = c.args.chunk in
    elim c.if-eq.branch [
      | then-eq w ↦
          let on : names chunk (entry ys i) ≡ true = cc in
          record {
            let_go = w.entry-items-is ∙ let_go_turn chunk xs ys i _ (omega arith) (omega arith) c.loop-entry.invariant.let_go (rw on);
            found = w.was-is ∙ sym (found_turn chunk xs ys i (omega arith) c.loop-entry.invariant.let_go ∙ rw on (or-true _));
          }
      | else-eq w ↦
          let off : names chunk (entry ys i) ≡ false = cc in
          record {
            let_go = w.entry-items-is ∙ let_go_turn chunk xs ys i _ (omega arith) (omega arith) c.loop-entry.invariant.let_go (rw off);
            found = w.was-is ∙ c.loop-entry.invariant.found ∙ sym (found_turn chunk xs ys i (omega arith) c.loop-entry.invariant.let_go ∙ rw off (or-false _));
          }
    ]

pub returns-clause-answer : goal.returns-clause-answer
returns-clause-answer g c =
    let s = c.args.self.now in
    let i = c.loop-entry.entry-index in
    let front = take c.slots-slots.result s.entries in
    let below : c.args.chunk < (pool_means g.E.Element.blank s).limit = omega (arith, c.limit.ensures, c.in_ok-in_range.ensures.below refl) in
    let was : c.loop-entry.was ≡ is_some (slot_of (slots_in s) c.args.chunk) =
    c.loop-entry.invariant.found
    ∙ ap (list_any (names c.args.chunk)) (take_all i front (omega arith) ∙ ap (λ k. take k s.entries) c.slots-slots.ensures)
    ∙ sym (position_any (names c.args.chunk) (slots_in s) no_entry) in
    ap Ok was ∙ rw (lt-ltb _ _ below)

pub returns-clause-after : goal.returns-clause-after
returns-clause-after g c =
    let v = g.E.Element.blank in
    let s = c.args.self.now in
    let xs = s.values.now in
    let n = c.slots-slots.result in
    let i = c.loop-entry.entry-index in
    let front = take n s.entries in
    let few = pool_slots_small s.width (length xs) in
    let long : length s.entries ≡ 256 = search rules in
    let all : length front ≤ i = omega arith in
    let done : c.loop-entry.entry-items ≡ released c.args.chunk (slots_in s) =
    c.loop-entry.invariant.let_go
    ∙ ap (λ ys. released c.args.chunk (take i front) ++ ys) (drop_all i front all)
    ∙ append-nil (released c.args.chunk (take i front))
    ∙ ap (released c.args.chunk) (take_all i front all ∙ ap (λ k. take k s.entries) c.slots-slots.ensures) in
    pool_erase v xs s.entries s.width s.limit c.args.chunk
    (omega (arith, c.limit.ensures, c.in_ok-in_range.ensures.below refl))
    _
    (omega arith)
    (ap (λ ys. ys ++ drop n s.entries) done ∙ ap (λ k. released c.args.chunk (slots_in s) ++ drop k s.entries) c.slots-slots.ensures)
