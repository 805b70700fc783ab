use Rattle.std.specs.Prelude.{◌≡◌, ℕ, zero, suc, ◌+◌, ◌*◌, ◌/◌, ◌%◌, ◌^◌, ◌<◌, ◌≤◌, min, false, List, [], ◌∷◌, map, length, is_some, Some, None, refl}
use Rattle.std.proofs.Common.{sym, ap, zero-le, arith, div-add-mod', mod-lt, zero-mul, suc-mul, add-mul, one-mul, le-mul_of_pos_right, div-mul-le_self}
use Rattle.std.proofs.Math.Nat.{lt-div-mul-add}
use Rattle.std.specs.List.{range_with_len, slice_get}
use Rattle.std.proofs.lemmas.Bool.{both_ways}
use Rattle.axes.specs.ChunkLaws.{chunk_contains}
use Rattle.axes.specs.Axes.{Axis, origin, chunk_of, LawfulAxis, Each, Lawful, axes_by, rounded_up, fixed}

pub origin_constant : (x : Axis) (s : ℕ) → ((k : ℕ) → x.edge k ≡ Some s) → (k : ℕ) → origin x k ≡ k * s
unfolding origin
origin_constant x s h zero = sym (zero-mul s)
origin_constant x s h (suc k) = rw (h k, origin_constant x s h k, suc-mul k s) refl

-- axes by number
pub each_from : (P : Axis → Type 0) (f : ℕ → Axis) (a n : ℕ) → ((k : ℕ) → a ≤ k → k < a + n → P (f k)) → Each P (map f (range_with_len a n))
each_from P f a zero h = tt
each_from P f a (suc n) h =
    (h a (omega arith) (omega arith), each_from P f (a + 1) n (λ k g l. h k (omega arith) (omega arith)))

pub length_from : (f : ℕ → Axis) (a n : ℕ) → length (map f (range_with_len a n)) ≡ n
length_from f a zero = refl
length_from f a (suc n) = ap suc (length_from f (a + 1) n)

pub nth_from : (f : ℕ → Axis) (a n k j : ℕ) → a + k ≡ j → k < n → slice_get (map f (range_with_len a n)) k ≡ Some (f j)
nth_from f a zero k j e h = absurd (let n : ⊥ = omega arith in n)
nth_from f a (suc n) zero j e h = let q : a ≡ j = omega arith in ap (λ (i : ℕ). Some (f i)) q
nth_from f a (suc n) (suc k) j e h = nth_from f (a + 1) n k j (omega arith) (omega arith)

pub nth_after : (f : ℕ → Axis) (a n k : ℕ) → n ≤ k → slice_get (map f (range_with_len a n)) k ≡ None
nth_after f a zero k h = refl
nth_after f a (suc n) zero h = absurd (let n : ⊥ = omega arith in n)
nth_after f a (suc n) (suc k) h = nth_after f (a + 1) n k (omega arith)

-- what is there stands below the length
pub nth_below : {A : Type 0} (xs : List A) (k : ℕ) (x : A) → slice_get xs k ≡ Some x → k < length xs
nth_below [] k x h = absurd (both_ways false refl (ap is_some h))
nth_below (y ∷ xs) zero x h = omega arith
nth_below (y ∷ xs) (suc k) x h = let l = nth_below xs k x h in omega arith

pub lawful_by : (n : ℕ) (f : ℕ → Axis) → n ≤ 8 → ((a : ℕ) → a < n → LawfulAxis (f a)) → Lawful (axes_by n f)
lawful_by n f few h = (rw length_from few, each_from LawfulAxis f 0 n (λ k _ l. h k (omega arith)))

rest_covered : (r s : ℕ) → r < s → r ≤ min 1 r * s
rest_covered zero s h = zero-le
rest_covered (suc r) s h = let e : min 1 (suc r) ≡ 1 = omega arith in rw (e, one-mul s) (omega arith)

pub rounded_up_covers : (n s : ℕ) → 1 ≤ s → n ≤ rounded_up n s * s
rounded_up_covers n s h =
    rw add-mul (omega (arith, div-add-mod' n s, rest_covered (n % s) s (mod-lt n h)))

pub rounded_up_le : (n s : ℕ) → 1 ≤ s → rounded_up n s ≤ n
rounded_up_le n s h = omega (arith, div-add-mod' n s, le-mul_of_pos_right (n / s) h)

pub fixed_lawful : (n s : ℕ) → 1 ≤ s → n < 2 ^ 64 → s < 2 ^ 64 → LawfulAxis (fixed n s)
fixed_lawful n s p nf sf = record {
  positive = λ k e q. let z : s ≡ e = cc in omega arith;
  gapless = λ j k l q. refl;
  counted = λ k l. refl;
  covers = rw (origin_constant (fixed n s) s (λ k. refl) (rounded_up n s)) (rounded_up_covers n s p);
  size_fits = nf;
  count_fits = let l = rounded_up_le n s p in omega arith;
  edge_fits = λ k e q. let z : s ≡ e = cc in omega arith;
}

-- on an axis whose edges are all s the chunk of i is i / s
pub chunk_fixed : (n s i : ℕ) → 1 ≤ s → n < 2 ^ 64 → s < 2 ^ 64 → chunk_of (fixed n s) i ≡ Some (i / s)
chunk_fixed n s i p nf sf = chunk_contains (fixed n s) (fixed_lawful n s p nf sf) i (i / s) (
  s,
  refl,
  rw (origin_constant (fixed n s) s (λ k. refl) (i / s)) (div-mul-le_self i s),
  rw (origin_constant (fixed n s) s (λ k. refl) (i / s)) (lt-div-mul-add p),
)
