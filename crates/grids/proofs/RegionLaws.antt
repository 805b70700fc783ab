use Rattle.std.proofs.Common.{◌≡◌, ℕ, zero, suc, ◌+◌, ◌-◌, ◌^◌, ◌<◌, ◌≤◌, Bool, true, false, cond, eqb, ltb, List, [], ◌∷◌, length, get_or, Some, None, Ok, Err, Option, sym, refl, subst, ⊎_elim, arith}
use Rattle.std.specs.List.{slice_get}
use Rattle.std.specs.Option.{SomeIff, ok_or}
use Rattle.std.proofs.lemmas.Bool.{cases_lt, cond-false, le-ltb, ltb-true, eqb-false, or_parts}
use Rattle.edges.specs.declared.fault.Cause.TheVariants.{Overflow}
use Rattle.edges.specs.declared.fault.Fault.{Fault}
use Rattle.axes.specs.Axes.{Axis, chunk_of, LawfulAxis, Lawful}
use Rattle.axes.specs.ChunkLaws.{chunk_of-Contains, number_below, before_later}
use Rattle.grids.specs.Places.{Answer}
use Rattle.grids.specs.Making.{first_fault, else_at, unless}
use Rattle.grids.specs.Answers.{asked, of_axis, has_zero, beyond}
use Rattle.grids.proofs.Never.{never}
use Rattle.grids.proofs.Asked.{each_at}

-- the last of n indices is in the chunk of the first or a later one, and a chunk's number is at most its indices
pub chunks_ordered : (xs : List Axis) → Lawful xs → (a i n f l : ℕ) → 1 ≤ n
    → Some f ≡ asked xs a (λ x. chunk_of x i) → Some l ≡ asked xs a (λ x. chunk_of x (i + n - 1)) → (f ≤ l) × (l ≤ i + n - 1)
chunks_ordered xs lawful a i n f l some p q = go (slice_get xs a) refl (sym p) (sym q)
  where
    go : (y : Option Axis) → slice_get xs a ≡ y → of_axis (λ x. chunk_of x i) y ≡ Some f → of_axis (λ x. chunk_of x (i + n - 1)) y ≡ Some l
        → (f ≤ l) × (l ≤ i + n - 1)
    go None e p q = never (cc)
    go (Some x) e p q =
        let c = chunk_of-Contains x i f p in
        let d = chunk_of-Contains x (i + n - 1) l q in
        let low = c.2 in (
          ⊎_elim (λ (b : l < f). absurd (before_later x (i + n - 1) l f d (omega arith) b)) (λ (b : f ≤ l). b) (cases_lt l f),
          number_below x (each_at LawfulAxis xs a x lawful.1 e) (i + n - 1) l d,
        )

pub positive_at : (ns : List ℕ) (k : ℕ) → has_zero ns ≡ false → k < length ns → 1 ≤ get_or ns k 0
positive_at [] k h l = absurd (let n : ⊥ = omega arith in n)
positive_at (n ∷ ns) zero h l =
    let p = or_parts (eqb n 0) (has_zero ns) h in let q = eqb-false n 0 p.0 in omega (arith, q)
positive_at (n ∷ ns) (suc k) h l = positive_at ns k (or_parts (eqb n 0) (has_zero ns) h).1 (omega arith)

-- where start + shape exceeds 64 bits
module _ (start shape : List ℕ) where
  pub beyond_at : (a : ℕ) → 2 ^ 64 ≤ get_or start a 0 + get_or shape a 0 → beyond start shape a ≡ Some Overflow
  beyond_at a h = cond-false (ltb (get_or start a 0 + get_or shape a 0) (2 ^ 64)) _ _ (le-ltb _ _ h)

  -- no axis is at fault
  pub all_within : (n a : ℕ) → first_fault (beyond start shape) n ≡ None → a < n → get_or start a 0 + get_or shape a 0 < 2 ^ 64
  unfolding first_fault
  all_within zero a h l = absurd (let n : ⊥ = omega arith in n)
  all_within (suc n) a h l = go (first_fault (beyond start shape) n) (ltb (get_or start n 0 + get_or shape n 0) (2 ^ 64)) refl refl (all_within n a) h
    where
      go : (o : Option Fault) (b : Bool) → first_fault (beyond start shape) n ≡ o → ltb (get_or start n 0 + get_or shape n 0) (2 ^ 64) ≡ b
          → (first_fault (beyond start shape) n ≡ None → a < n → get_or start a 0 + get_or shape a 0 < 2 ^ 64)
          → else_at o n (cond b None (Some Overflow)) ≡ None → get_or start a 0 + get_or shape a 0 < 2 ^ 64
      go (Some f) b p q r h = never (cc)
      go None false p q r h = never (cc)
      go None true p q r h =
          ⊎_elim (λ (b : a < n). r p b)
          (λ (b : n ≤ a). let e : n ≡ a = omega arith in subst (λ k. get_or start k 0 + get_or shape k 0 < 2 ^ 64) e (ltb-true _ _ q))
          (cases_lt a n)

  -- the same, where this is an answer
  pub ends_within : (n a : ℕ) (u : Unit {0}) → Ok u ≡ unless (first_fault (beyond start shape) n) (Ok tt) → a < n → get_or start a 0 + get_or shape a 0 < 2 ^ 64
  ends_within n a u h l = go (first_fault (beyond start shape) n) refl h
    where
      go : (o : Option Fault) → first_fault (beyond start shape) n ≡ o → Ok u ≡ unless o (Ok tt) → get_or start a 0 + get_or shape a 0 < 2 ^ 64
      go (Some f) p q = never (cc)
      go None p q = all_within n a p l

-- what is answered for a region with no 0 and ends of 64 bits
pub asked_region : {B : Type 0} (start shape : List ℕ) (n m : ℕ) (u : Unit {0}) (x y : Answer B) → n ≡ m → has_zero shape ≡ false
    → Ok u ≡ unless (first_fault (beyond start shape) n) (Ok tt) → y ≡ cond (has_zero shape) x (unless (first_fault (beyond start shape) m) y)
asked_region {B} start shape n m u x y e z h = rw (z, ← e) (go (first_fault (beyond start shape) n) h)
  where
    go : (o : Option Fault) → Ok u ≡ unless o (Ok tt) → y ≡ unless {B = Option B} o y
    go (Some f) q = never (cc)
    go None q = refl

-- a sum that is refused exceeds 64 bits
pub sum_refused : (o : Option ℕ) (s : ℕ) (f e : Fault) → SomeIff o (s < 2 ^ 64) s → Err e ≡ ok_or o f → (2 ^ 64 ≤ s) × (e ≡ f)
sum_refused None s f e h p = (omega (arith, h), cc)
sum_refused (Some v) s f e h p = never (cc)
