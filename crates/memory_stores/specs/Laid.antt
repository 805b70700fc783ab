use Rattle.std.specs.Prelude.{◌≡◌, ℕ, ◌+◌, ◌*◌, ◌≤◌, Bool, true, false, cond, ◌&&◌, List, nat_lt, slice_index_or, refl}
use Rattle.std.specs.declared.ops.Range.{Range}
use Rattle.std.proofs.Common.{arith}
use Rattle.std.proofs.lemmas.Bool.{le-ltb}
use Rattle.stores.specs.Counts.{count}
use Rattle.stores.specs.Held.{Held, Sound}

-- A store of limit l, width w and s slots that keeps chunk k, where `marked`, in the row of values that begins at `slot k` widths.
abbrev pub laid : {E : Type 0} → ℕ → ℕ → ℕ → E → (ℕ → Bool) → (ℕ → ℕ) → List E → Held E
laid l w s v marked slot xs = record {
  limit = l;
  width = w;
  slots = s;
  fill = v;
  present = λ k. nat_lt k l && marked k;
  value = λ k p. cond (nat_lt k l && marked k && nat_lt p w) (slice_index_or xs (slot k * w + p) v) v;
}

-- Row `slot` of values in rows of width w.
pub record IsRow (slot w : ℕ) (r : Range ℕ) : Type 0 where
  pub start : r.start ≡ slot * w
  pub end : r.end ≡ slot * w + w

module _ {E : Type 0} (l w s : ℕ) (v : E) (marked : ℕ → Bool) (slot : ℕ → ℕ) (xs : List E) where
  pub laid_sound : l ≤ 65536 → w ≤ 65536 → s ≤ 65536 → count (λ k. nat_lt k l && marked k) l ≤ s → Sound (laid l w s v marked slot xs)
  laid_sound a b c r = record {
    limit_small = a;
    width_small = b;
    slots_small = c;
    past_limit = λ k h. rw (le-ltb k l h);
    past_width = λ k p h.
        rw (le-ltb p w h)
        (elim (nat_lt k l && marked k) as (λ t. cond (t && false) (slice_index_or xs (slot k * w + p) v) v ≡ v) [ true ↦ refl | false ↦ refl ]);
    absent_fill = λ k p h. rw h;
    adds_up = omega arith;
  }
