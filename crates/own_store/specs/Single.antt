use Rattle.std.specs.Prelude.{◌≡◌, ℕ, Bool, true, false, cond, ◌&&◌, List, replicate, Option, Some, None, is_some, nat_lt, slice_index_or, refl}
use Rattle.std.specs.Option.{unwrap_or}
use Rattle.std.proofs.Common.{inl, inr, arith, lit≤}
use Rattle.std.proofs.lemmas.Bool.{cases_lt, le-ltb, cases_Bool, both_ways}
use Rattle.std.proofs.lemmas.List.{get_or-replicate}
use Rattle.stores.specs.Counts.{count_le}
use Rattle.stores.specs.Held.{Held, Sound, empty}
use Rattle.own_store.specs.declared.moisture.Moisture.{Moisture}

abbrev pub unmeasured : Moisture
unmeasured = record { percent = 255 }

-- What the places of the chunk read as: the store's values, and 255 while it has none.
abbrev pub readings : Option (List Moisture) → List Moisture
readings o = unwrap_or o (replicate 4 unmeasured)

-- What a store of one chunk means: chunk 0 is present where the store has values, and has those.
abbrev pub single_held : Option (List Moisture) → Held Moisture
single_held o = record {
  limit = 1;
  width = 4;
  slots = 1;
  fill = unmeasured;
  present = λ k. nat_lt k 1 && is_some o;
  value = λ k p. cond (nat_lt k 1 && nat_lt p 4) (slice_index_or (readings o) p unmeasured) unmeasured;
}

abbrev pub new_single : Held Moisture
new_single = empty 1 4 1 unmeasured

both_off : {A : Type 0} (t : Bool) (x y : A) → cond (t && false) x y ≡ y
both_off true x y = refl
both_off false x y = refl

-- an absent chunk reads as 255
absent_reads : (k p : ℕ) → cond (nat_lt k 1 && nat_lt p 4) (slice_index_or (readings None) p unmeasured) unmeasured ≡ unmeasured
absent_reads k p = elim (cases_lt p 4) [
  | inl h ↦ rw (get_or-replicate 4 p unmeasured unmeasured h) (elim (nat_lt k 1 && nat_lt p 4) as (λ t. cond t unmeasured unmeasured ≡ unmeasured) [ true ↦ refl | false ↦ refl ])
  | inr o ↦ rw (le-ltb p 4 o) (both_off (nat_lt k 1) _ unmeasured)
]

absent_fill : (o : Option (List Moisture)) (k p : ℕ) → (nat_lt k 1 && is_some o) ≡ false → (single_held o).value k p ≡ unmeasured
absent_fill None k p h = absent_reads k p
absent_fill (Some xs) k p h = elim (cases_Bool (nat_lt k 1)) [
  | inl t ↦ absurd (both_ways true (rw t at h) refl)
  | inr f ↦ rw f
]

pub single_sound : (o : Option (List Moisture)) → Sound (single_held o)
single_sound o = record {
  limit_small = lit≤ tt;
  width_small = lit≤ tt;
  slots_small = lit≤ tt;
  past_limit = λ k h. rw (le-ltb k 1 h);
  past_width = λ k p h. rw (le-ltb p 4 h) (both_off (nat_lt k 1) _ unmeasured);
  absent_fill = absent_fill o;
  adds_up = omega (arith, count_le (λ k. nat_lt k 1 && is_some o) 1);
}
