use Rattle.std.proofs.Common.{◌≡◌, ℕ, ◌+◌, ◌-◌, ◌*◌, ◌<◌, ◌≤◌, Bool, true, false, cond, ◌&&◌, ltb, List, ◌++◌, length, get_or, take, drop, set, replicate, is_some, Some, None, Ok, Err, unwrap_or, sym, refl, ap, ◌∙◌, inl, inr, arith, length-set}
use lib.ListN.{length-replicate, get_or-replicate}
use lib.Seq.{take-set-lt}
use borrow.Rule.Slice.PartMut.{put_mid}
use Rattle.std.proofs.lemmas.Bool.{cases_eq, cases_lt, lt-ltb, le-ltb, ne_eqb, eq-eqb, both_ways}
use Rattle.std.proofs.lemmas.List.{get_or-take, get_or_past, length-take, length-take-le, length-map, take_at}
use Rattle.std.proofs.lemmas.List.Quantifiers.{position-Some}
use Rattle.std.proofs.lemmas.Option.{same_Some}
use Rattle.stores.specs.Counts.{count, count_all, count_le, count_missing}
use Rattle.stores.specs.Held.{Held, free, put_answer, after_put, after_erase, no_slot}
use Rattle.stores.proofs.HeldLaws.{same_held}
use Rattle.memory_stores.specs.declared.directory.Entry.{Entry}
use Rattle.memory_stores.specs.Entries.{entry, names, no_entry, slot_of, busy, vacant, released}
use Rattle.memory_stores.specs.Extents.{capped, pool_limit, pool_slots, pool_fit}
use Rattle.memory_stores.specs.Laid.{laid}
use Rattle.memory_stores.specs.Meanings.{pool_held, new_pool, with_chunk, room_answer}
use Rattle.memory_stores.specs.Named.{named_count, position_nowhere, opt_is}
use Rattle.memory_stores.proofs.Rows.{row_below, length-part, part_in, part_out, part_set}
use Rattle.memory_stores.proofs.Slots.{some_of, vacant_found, vacant_full, slot_busy, taken, taken_slot, taken_same, released_here, released_other}
use Rattle.memory_stores.proofs.Writing.{rows_apart, laid_chunk, laid_put, laid_erase, put_done, after_erase_done}

-- a table of unused entries
pub unused : (n i : ℕ) → (entry (replicate n no_entry) i).chunk ≡ None
unused n i = ap (λ (e : Entry). e.chunk) (elim (cases_lt i n) [
  | inl h ↦ get_or-replicate n i no_entry no_entry h
  | inr o ↦ get_or_past (replicate n no_entry) i no_entry (omega (arith, length-replicate n no_entry))
])

module _ {E : Type 0} (v : E) (xs : List E) (es : List Entry) (w lim : ℕ) where
  abbrev pub n : ℕ
  n = pool_slots w (length xs)

  abbrev pub l : ℕ
  l = pool_limit w lim

  abbrev ts : List Entry
  ts = take n es

  abbrev m : ℕ → Bool
  m k = is_some (slot_of ts k)

  abbrev σ : ℕ → ℕ
  σ k = unwrap_or (slot_of ts k) 0

  abbrev P : Held E
  P = pool_held v xs es w lim

  pool_at : (ys : List E) (es' : List Entry) → length ys ≡ length xs → pool_held v ys es' w lim ≡ laid l (capped w) n v (λ k. is_some (slot_of (take n es') k)) (λ k. unwrap_or (slot_of (take n es') k) 0) ys
  pool_at ys es' e = ap (λ j. laid l (capped w) (pool_slots w j) v (λ k. is_some (slot_of (take (pool_slots w j) es') k)) (λ k. unwrap_or (slot_of (take (pool_slots w j) es') k) 0) ys) e

  pub pool_row : (s : ℕ) → s < n → s * capped w + capped w ≤ length xs
  pool_row s h = row_below n (capped w) (length xs) s (pool_fit w (length xs)) h

  pub pool_free : (r : ℕ) → r ≡ count (busy ts l) (length ts) → n - r ≡ free P
  pool_free r e = omega (arith, e, named_count ts l)

  pub taken_few : (r : ℕ) → r ≡ count (busy ts l) (length ts) → r ≤ n
  taken_few r e = omega (arith, e, count_le (busy ts l) (length ts), length-take n es)

  pub pool_empty : ((i : ℕ) → (entry es i).chunk ≡ None) → P ≡ new_pool v (length xs) w lim
  pool_empty h =
      let none : (k : ℕ) → slot_of ts k ≡ None = λ k. position_nowhere (names k) ts no_entry
      (λ i o. ap (names k) (get_or-take n es i no_entry (omega (arith, length-take n es))) ∙ rw (h i)) in
      same_held _ _ refl refl refl refl
      (λ k. rw (none k) (elim (ltb k l) as (λ t. (t && false) ≡ false) [ true ↦ refl | false ↦ refl ]))
      (λ k q. rw (none k) (elim (ltb k l) as (λ t. cond (t && false && ltb q (capped w)) (get_or xs (0 * capped w + q) v) v ≡ v) [ true ↦ refl | false ↦ refl ]))

  slot_below : (k s : ℕ) → slot_of ts k ≡ Some s → s < n
  slot_below k s e = omega (arith, (position-Some (names k) ts s no_entry e).0, length-take n es)

  module _ (c : ℕ) (a : c < l) where
    module _ (none : slot_of ts c ≡ None) (long : n ≤ length es) where
      full : length ts ≡ n
      full = length-take-le n es long

      pub room_full : vacant ts l ≡ None → Err no_slot ≡ room_answer P c
      room_full e =
          let none_left : free P ≡ 0 = omega (arith, full, named_count ts l, count_all (busy ts l) (length ts) (vacant_full ts l e)) in
          rw (lt-ltb c l a, none, le-ltb 0 (free P) (omega arith))

      module _ (s : ℕ) (e : vacant ts l ≡ Some s) where
        pub vacant_below : s < n
        vacant_below = omega (arith, full, (vacant_found ts l s e).0)

        pub room_left : Ok tt ≡ room_answer P c
        room_left =
            let u = vacant_found ts l s e in
            let left : 0 < free P = omega (arith, full, named_count ts l, count_missing (busy ts l) s (length ts) u.0 u.1) in
            rw (lt-ltb c l a, none, lt-ltb 0 (free P) left)

        -- the entries with the slot taken
        abbrev es' : List Entry
        es' = set es s (record { chunk = Some c })

        these : take n es' ≡ taken ts l c s (vacant_found ts l s e).0 (vacant_found ts l s e).1
        these = take-set-lt n es s (record { chunk = Some c }) vacant_below

        pub slot_taken : slot_of (take n es') c ≡ Some s
        slot_taken =
            let u = vacant_found ts l s e in
            ap (λ ns. slot_of ns c) these ∙ taken_slot ts l c s u.0 u.1 none

        others : (k : ℕ) → k < l → (k ≡ c → ⊥) → slot_of (take n es') k ≡ slot_of ts k
        others k b ne =
            let u = vacant_found ts l s e in
            ap (λ ns. slot_of ns k) these ∙ taken_same ts l c s u.0 u.1 k b ne

        -- and with the row put to fill
        pub slot_now : (i k : ℕ) (ys : List E) → i ≡ s * capped w → k ≡ capped w → ys ≡ replicate k v
            → slot_of (take (pool_slots w (length (put_mid i k xs ys))) es') c ≡ Some s
        slot_now i k ys f g y =
            let fits : i + k ≤ length xs = omega (arith, f, g, pool_row s vacant_below) in
            ap (λ j. slot_of (take (pool_slots w j) es') c) (length-part i k xs fits ys (ap length y ∙ length-replicate k v)) ∙ slot_taken

        pub pool_chunk : (i k : ℕ) (ys : List E) → i ≡ s * capped w → k ≡ capped w → ys ≡ replicate k v
            → pool_held v (put_mid i k xs ys) es' w lim ≡ with_chunk P c
        pool_chunk i k ys f g y =
            let u = vacant_found ts l s e in
            let W : ℕ = capped w in
            let zs : List E = put_mid i k xs ys in
            let fits : i + k ≤ length xs = omega (arith, f, g, pool_row s vacant_below) in
            let wide : length ys ≡ k = ap length y ∙ length-replicate k v in
            pool_at zs es' (length-part i k xs fits ys wide)
            ∙ laid_chunk l W n v m σ xs c a (λ j. is_some (slot_of (take n es') j)) (λ j. unwrap_or (slot_of (take n es') j) 0) zs (ap is_some none)
            (λ j b. elim (cases_eq j c) [
              | inl q ↦ rw (eq-eqb j c q, q) (ap is_some slot_taken)
              | inr ne ↦ rw (ne_eqb j c ne) (ap is_some (others j b ne))
            ])
            (λ q b. ap (λ o. get_or zs (unwrap_or o 0 * W + q) v) slot_taken ∙ ap (λ j. get_or zs (j + q) v) (sym f) ∙ part_in i k xs fits ys q v wide (omega arith) ∙ ap (λ us. get_or us q v) y ∙ get_or-replicate k q v v (omega arith))
            (λ j b ne t q h. ap (λ o. get_or zs (unwrap_or o 0 * W + q) v) (others j b ne) ∙ part_out i k xs fits ys (σ j * W + q) v wide
            (λ r b' d. rows_apart W (σ j) q s r h (omega arith)
            (λ same. both_ways (busy ts l s) u.1 (ap (busy ts l) (sym same) ∙ slot_busy ts l j (σ j) (some_of (slot_of ts j) t) b))
            (d ∙ ap (λ x. x + r) f)))

    pub pool_erase : (rs : List Entry) → n ≤ length es → rs ≡ released c ts ++ drop n es → pool_held v xs rs w lim ≡ after_erase P c
    pool_erase rs long e =
        let R : List Entry = released c ts in
        let front : take n rs ≡ R = ap (take n) e ∙ take_at R (drop n es) n (length-map ts _ ∙ length-take-le n es long) in
        ap (λ us. laid l (capped w) n v (λ k. is_some (slot_of us k)) (λ k. unwrap_or (slot_of us k) 0) xs) front
        ∙ laid_erase l (capped w) n v m σ xs c a (λ k. is_some (slot_of R k)) (λ k. unwrap_or (slot_of R k) 0)
        (λ k i. elim (cases_eq k c) [
          | inl f ↦ rw (eq-eqb k c f, f) (ap is_some (released_here ts c))
          | inr ne ↦ rw (ne_eqb k c ne) (ap is_some (released_other ts c k ne))
        ])
        (λ k i ne t. ap (λ o. unwrap_or o 0) (released_other ts c k ne))
        ∙ sym (after_erase_done P c (m c) (rw (lt-ltb c l a)))

  -- one value is set, of a chunk that h was given
  module _ (h : Held E) (c p s : ℕ) (e : P ≡ with_chunk h c) (slot : slot_of ts c ≡ Some s) (a : c < h.limit) (b : p < h.width) where
    pub slot_given : s < n
    slot_given = slot_below c s slot

    given_place : p < capped w
    given_place = omega (arith, ap (λ k. k.width) e)

    pub pool_put : (val : E) (i k : ℕ) → i ≡ s * capped w → k ≡ capped w → Ok tt ≡ put_answer h c p
        → pool_held v (put_mid i k xs (set (take k (drop i xs)) p val)) es w lim ≡ after_put h c p val
    pool_put val i k f g ok =
        let fits : i + k ≤ length xs = omega (arith, f, g, pool_row s slot_given) in
        let below : c < l = omega (arith, ap (λ j. j.limit) e) in
        put_done h c p val P _ ok e
        (ap (λ ys. pool_held v ys es w lim) (part_set i k xs fits p val (omega (arith, given_place)))
        ∙ pool_at (set xs (i + p) val) es (length-set xs (i + p) val)
        ∙ laid_put l (capped w) n v m σ xs c below p val (i + p) given_place (ap is_some slot)
        (λ k' b' ne t same.
        let z = position-Some (names k') ts (σ k') no_entry (some_of (slot_of ts k') t) in
        let y = position-Some (names c) ts s no_entry slot in
        let used : (entry ts (σ k')).chunk ≡ Some k' = opt_is (entry ts (σ k')).chunk k' z.1 in
        let used' : (entry ts s).chunk ≡ Some c = opt_is (entry ts s).chunk c y.1 in
        let here : σ k' ≡ s = same ∙ ap (λ o. unwrap_or o 0) slot in
        ne (same_Some k' c (sym used ∙ ap (λ j. (entry ts j).chunk) here ∙ used')))
        (ap (λ j. j + p) f ∙ ap (λ o. unwrap_or o 0 * capped w + p) (sym slot))
        (omega (arith, given_place)))
