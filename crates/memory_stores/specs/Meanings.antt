use Rattle.std.specs.Prelude.{ℕ, ◌==◌, nat_lt, Bool, true, false, cond, List, ◌++◌, length, take, drop, replicate, is_some, Ok, Err, Result, slice_index_or}
use Rattle.std.proofs.Common.{arith}
use Rattle.std.proofs.lemmas.List.{length-take}
use Rattle.std.specs.Option.{unwrap_or}
use Rattle.edges.specs.declared.fault.Fault.{Fault}
use Rattle.stores.specs.Counts.{count_le}
use Rattle.stores.specs.Held.{Held, Sound, empty, free, no_slot}
use Rattle.memory_stores.specs.declared.directory.Entry.{Entry}
use Rattle.memory_stores.specs.declared.flat.Flat.{Flat}
use Rattle.memory_stores.specs.declared.pool.Pool.{Pool}
use Rattle.memory_stores.specs.Entries.{slot_of, busy}
use Rattle.memory_stores.specs.Extents.{capped, archive_limit, flat_limit, pool_limit, pool_slots, capped_small, archive_small, flat_small, pool_limit_small, pool_slots_small}
use Rattle.memory_stores.specs.Laid.{laid, laid_sound}
use Rattle.memory_stores.specs.Named.{named_count}

-- What an archive of values xs means: every chunk is present, and chunk k lies at k widths.
abbrev pub archive_held : {E : Type 0} → E → List E → ℕ → Held E
archive_held v xs w =
    laid (archive_limit w (length xs)) (capped w) (archive_limit w (length xs)) v (λ _. true) (λ k. k) xs

-- What a flat store of values xs and marks ms means: a chunk is present where its mark is set, and chunk k lies at k widths.
abbrev pub flat_held : {E : Type 0} → E → List E → List Bool → ℕ → Held E
flat_held v xs ms w =
    laid (flat_limit w (length xs) (length ms)) (capped w) (flat_limit w (length xs) (length ms)) v (λ k. slice_index_or ms k false) (λ k. k) xs

-- What a pool of values xs and entries es means: a chunk is present where a slot is used for it, and lies in the lowest such slot.
abbrev pub pool_held : {E : Type 0} → E → List E → List Entry → ℕ → ℕ → Held E
pool_held v xs es w l =
    laid (pool_limit w l) (capped w) (pool_slots w (length xs)) v
    (λ k. is_some (slot_of (take (pool_slots w (length xs)) es) k))
    (λ k. unwrap_or (slot_of (take (pool_slots w (length xs)) es) k) 0)
    xs

abbrev pub flat_means : {E : Type 0} → E → Flat E → Held E
flat_means v s = flat_held v s.values.now s.marks.now s.width

-- The entries of a pool's slots, and what the pool means.
abbrev pub slots_in : {E : Type 0} → Pool E → List Entry
slots_in s = take (pool_slots s.width (length s.values.now)) s.entries

abbrev pub pool_means : {E : Type 0} → E → Pool E → Held E
pool_means v s = pool_held v s.values.now s.entries s.width s.limit

-- Chunk c is present. All else is as it was: where it was absent, it still reads as fill.
abbrev pub with_chunk : {E : Type 0} → Held E → ℕ → Held E
with_chunk h c = record {
  limit = h.limit;
  width = h.width;
  slots = h.slots;
  fill = h.fill;
  present = λ k. cond (k == c) true (h.present k);
  value = h.value;
}

-- Refusal 9 where a chunk is absent and no slot is free.
abbrev pub room_answer : {E : Type 0} → Held E → ℕ → Result (Unit {0}) Fault
room_answer h c = cond (h.present c) (Ok tt) (cond (nat_lt 0 (free h)) (Ok tt) (Err no_slot))

-- A flat store as it is made, from n values and m marks, and a pool, from n values and a limit: no chunk is present.
abbrev pub new_flat : {E : Type 0} → E → ℕ → ℕ → ℕ → Held E
new_flat v n m w = empty (flat_limit w n m) (capped w) (flat_limit w n m) v

abbrev pub new_pool : {E : Type 0} → E → ℕ → ℕ → ℕ → Held E
new_pool v n w l = empty (pool_limit w l) (capped w) (pool_slots w n) v

-- The first n marks are cleared, the others as they were.
abbrev pub marks_cleared : ℕ → List Bool → List Bool
marks_cleared n ms = replicate n false ++ drop n ms

pub archive_sound : {E : Type 0} (v : E) (xs : List E) (w : ℕ) → Sound (archive_held v xs w)
archive_sound v xs w =
    let n : ℕ = archive_limit w (length xs) in
    laid_sound n (capped w) n v (λ _. true) (λ k. k) xs (archive_small w (length xs)) (capped_small w) (archive_small w (length xs)) (count_le _ n)

pub flat_sound : {E : Type 0} (v : E) (xs : List E) (ms : List Bool) (w : ℕ) → Sound (flat_held v xs ms w)
flat_sound v xs ms w =
    let n : ℕ = flat_limit w (length xs) (length ms) in
    let small = flat_small w (length xs) (length ms) in
    laid_sound n (capped w) n v (λ k. slice_index_or ms k false) (λ k. k) xs small (capped_small w) small (count_le _ n)

pub pool_sound : {E : Type 0} (v : E) (xs : List E) (es : List Entry) (w l : ℕ) → Sound (pool_held v xs es w l)
pool_sound v xs es w l =
    let n : ℕ = pool_slots w (length xs) in
    let ts : List Entry = take n es in
    laid_sound (pool_limit w l) (capped w) n v (λ k. is_some (slot_of ts k)) (λ k. unwrap_or (slot_of ts k) 0) xs
    (pool_limit_small w l)
    (capped_small w)
    (omega (arith, pool_slots_small w (length xs)))
    (omega (arith, length-take n es, named_count ts (pool_limit w l), count_le (busy ts (pool_limit w l)) (length ts)))
