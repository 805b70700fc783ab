use Rattle.std.specs.Prelude.{◌≡◌, ℕ, ◌+◌, ◌-◌, ◌≤◌, Bool, true, false, cond, ◌&&◌, Ok, Err, Result, ◌==◌, nat_lt}
use Rattle.edges.specs.declared.fault.Cause.TheVariants.{Range, Full}
use Rattle.edges.specs.declared.fault.Layer.TheVariants.{Store}
use Rattle.edges.specs.declared.fault.Fault.{Fault}
use Rattle.edges.specs.Refusals.{refusal}
use Rattle.stores.specs.Counts.{count}

-- What a store means: its numbers, the fill value, which chunks are present, and the value at each chunk and place.
pub record Held (E : Type 0) : Type 0 where
  pub limit : ℕ
  pub width : ℕ
  pub slots : ℕ
  pub fill : E
  pub present : ℕ → Bool
  pub value : ℕ → ℕ → E

-- The slots that no chunk takes.
abbrev pub free : {E : Type 0} → Held E → ℕ
free h = h.slots - count h.present h.limit

-- The law of a store.
pub record Sound {E : Type 0} (h : Held E) : Type 0 where
  pub limit_small : h.limit ≤ 65536
  pub width_small : h.width ≤ 65536
  pub slots_small : h.slots ≤ 65536
  pub past_limit : (k : ℕ) → h.limit ≤ k → h.present k ≡ false
  pub past_width : (k p : ℕ) → h.width ≤ p → h.value k p ≡ h.fill
  pub absent_fill : (k p : ℕ) → h.present k ≡ false → h.value k p ≡ h.fill
  pub adds_up : count h.present h.limit + free h ≡ h.slots

-- No chunk is present.
abbrev pub empty : {E : Type 0} → ℕ → ℕ → ℕ → E → Held E
empty l w s v = record { limit = l; width = w; slots = s; fill = v; present = λ _. false; value = λ _ _. v }

-- The refusals of a store: 11 out of range, 9 where no slot is free.
abbrev pub out_of_range : Fault
out_of_range = refusal Range Store

abbrev pub no_slot : Fault
no_slot = refusal Full Store

-- Refusal 11 unless a number is below its bound, and unless a chunk is below the limit and a place below the width.
abbrev pub range_answer : ℕ → ℕ → Result (Unit {0}) Fault
range_answer n bound = cond (nat_lt n bound) (Ok tt) (Err out_of_range)

abbrev pub place_answer : ℕ → ℕ → ℕ → ℕ → Result (Unit {0}) Fault
place_answer c limit p width = cond (nat_lt c limit && nat_lt p width) (Ok tt) (Err out_of_range)

-- a chunk below the limit, and a place below the width
abbrev pub inside : {E : Type 0} → Held E → ℕ → ℕ → Bool
inside h c p = nat_lt c h.limit && nat_lt p h.width

abbrev pub present_answer : {E : Type 0} → Held E → ℕ → Result Bool Fault
present_answer h c = cond (nat_lt c h.limit) (Ok (h.present c)) (Err out_of_range)

abbrev pub get_answer : {E : Type 0} → Held E → ℕ → ℕ → Result E Fault
get_answer h c p = cond (inside h c p) (Ok (h.value c p)) (Err out_of_range)

abbrev pub put_answer : {E : Type 0} → Held E → ℕ → ℕ → Result (Unit {0}) Fault
put_answer h c p =
    cond (inside h c p)
    (cond (h.present c) (Ok tt) (cond (nat_lt 0 (free h)) (Ok tt) (Err no_slot)))
    (Err out_of_range)

-- whether the chunk was present
abbrev pub erase_answer : {E : Type 0} → Held E → ℕ → Result Bool Fault
erase_answer = present_answer

-- Chunk c is present, and v stands at its place p. All else is as it was.
abbrev pub with_value : {E : Type 0} → Held E → ℕ → ℕ → E → Held E
with_value h c p v = record {
  limit = h.limit;
  width = h.width;
  slots = h.slots;
  fill = h.fill;
  present = λ k. cond (k == c) true (h.present k);
  value = λ k q. cond (k == c && q == p) v (h.value k q);
}

-- Chunk c is absent. All else is as it was.
abbrev pub without : {E : Type 0} → Held E → ℕ → Held E
without h c = record {
  limit = h.limit;
  width = h.width;
  slots = h.slots;
  fill = h.fill;
  present = λ k. cond (k == c) false (h.present k);
  value = λ k q. cond (k == c) h.fill (h.value k q);
}

-- the first after an accepted call, the second after a refused one
abbrev pub if_accepted : {A T : Type 0} → Result T Fault → A → A → A
if_accepted (Ok _) new old = new
if_accepted (Err _) new old = old

abbrev pub after_put : {E : Type 0} → Held E → ℕ → ℕ → E → Held E
after_put h c p v = if_accepted (put_answer h c p) (with_value h c p v) h

abbrev pub after_erase : {E : Type 0} → Held E → ℕ → Held E
after_erase h c = if_accepted (erase_answer h c) (without h c) h

-- A refused call leaves all as it was.
abbrev pub Kept : {S T : Type 0} → Result T Fault → S → S → Type 0
Kept (Ok _) before after = Unit {0}
Kept (Err _) before after = after ≡ before
