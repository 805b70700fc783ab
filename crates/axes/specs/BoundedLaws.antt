use Rattle.std.specs.Prelude.{◌≡◌, ℕ, zero, suc, ◌+◌, ◌-◌, ◌*◌, ◌/◌, ◌%◌, ◌^◌, ◌<◌, ◌≤◌, min, Bool, true, false, cond, is_some, Some, None, nat_lt, refl}
use Rattle.std.proofs.Common.{ap, ap₂, ◌∙◌, ⊎_elim, arith, le_refl, div-add-mod', mul-le-mul, div-mul-le_self}
use Rattle.std.proofs.Math.Nat.{lt-div-mul-add}
use Rattle.std.proofs.lemmas.Bool.{cases_lt, lt-ltb, le-ltb, ltb-true, both_ways}
use Rattle.axes.specs.Axes.{edge_at, origin, chunk_of, LawfulAxis, rounded_up, bounded}
use Rattle.axes.specs.ChunkLaws.{chunk_contains, chunk_none, some_value}
use Rattle.axes.specs.AxisLaws.{rounded_up_covers, rounded_up_le}

-- the count is the quotient rounded up: k is below it exactly when k whole edges end before the size
pub past_count : (n s k : ℕ) → 1 ≤ s → rounded_up n s ≤ k → n ≤ k * s
past_count n s k pos h =
    let c = rounded_up_covers n s pos in
    let m : rounded_up n s * s ≤ k * s = mul-le-mul h (le_refl s) in
    omega arith

pub before_count : (n s k : ℕ) → 1 ≤ s → k < rounded_up n s → k * s < n
before_count n s k pos h =
    let d = div-add-mod' n s in
    ⊎_elim
    (λ (z : n % s < 1).
    let m : suc k * s ≤ n / s * s = let h' : suc k ≤ n / s = omega arith in mul-le-mul h' (le_refl s) in
    omega arith)
    (λ (z : 1 ≤ n % s).
    let m : k * s ≤ n / s * s = let h' : k ≤ n / s = omega arith in mul-le-mul h' (le_refl s) in
    omega arith)
    (cases_lt (n % s) 1)

-- a bounded axis
pub bounded_edge : (n s k : ℕ) → 1 ≤ s → edge_at (bounded n s) k ≡ min s (n - k * s)
bounded_edge n s k pos =
    ⊎_elim
    (λ (l : k < rounded_up n s). rw (lt-ltb _ _ l))
    (λ (l : rounded_up n s ≤ k). let m = past_count n s k pos l in rw (le-ltb _ _ l) (omega arith))
    (cases_lt k (rounded_up n s))

pub bounded-origin : (n s : ℕ) → 1 ≤ s → (k : ℕ) → origin (bounded n s) k ≡ min (k * s) n
unfolding origin
bounded-origin n s pos zero = omega arith
bounded-origin n s pos (suc k) =
    let r = bounded-origin n s pos k in
    let e = bounded_edge n s k pos in
    ap₂ ◌+◌ r e ∙ omega arith

-- an edge of a bounded axis: the chunk is below the count
bounded_there : (n s k e : ℕ) → (bounded n s).edge k ≡ Some e → (k < rounded_up n s) × (e ≡ min s (n - k * s))
bounded_there n s k e h = go (nat_lt k (rounded_up n s)) refl h
  where
    go : (b : Bool) → nat_lt k (rounded_up n s) ≡ b → cond b (Some (min s (n - k * s))) None ≡ Some e → (k < rounded_up n s) × (e ≡ min s (n - k * s))
    go true p q = (ltb-true _ _ p, cc)
    go false p q = absurd (both_ways false refl (ap is_some q))

pub bounded_lawful : (n s : ℕ) → 1 ≤ s → n < 2 ^ 64 → s < 2 ^ 64 → LawfulAxis (bounded n s)
bounded_lawful n s pos ln ls = record {
  positive = λ k e h.
      let (l, v) = bounded_there n s k e h in
      let m = before_count n s k pos l in
      omega arith;
  gapless = λ j k l h.
      let (e, p) = some_value ((bounded n s).edge k) h in
      let (m, v) = bounded_there n s k e p in
      let r : j < rounded_up n s = omega arith in
      rw (lt-ltb _ _ r);
  counted = λ k l. rw (lt-ltb _ _ l);
  covers = rw (bounded-origin n s pos (rounded_up n s)) (omega (arith, rounded_up_covers n s pos));
  size_fits = ln;
  count_fits = omega (arith, rounded_up_le n s pos);
  edge_fits = λ k e h. let (l, v) = bounded_there n s k e h in omega arith;
}

pub chunk_bounded : (n s i : ℕ) → 1 ≤ s → n < 2 ^ 64 → s < 2 ^ 64 → i < n → chunk_of (bounded n s) i ≡ Some (i / s)
chunk_bounded n s i pos ln ls l =
    let o = bounded-origin n s pos (i / s) in
    let low = div-mul-le_self i s in
    let high = lt-div-mul-add {a = i} pos in
    let c : i / s < rounded_up n s =
    ⊎_elim (λ (b : i / s < rounded_up n s). b)
    (λ (b : rounded_up n s ≤ i / s). let m = past_count n s (i / s) pos b in let z : ⊥ = omega arith in absurd z) (cases_lt (i / s) (rounded_up n s)) in
    chunk_contains (bounded n s) (bounded_lawful n s pos ln ls) i (i / s)
    (min s (n - i / s * s), rw (lt-ltb _ _ c), omega arith, omega arith)

pub chunk_past : (n s i : ℕ) → 1 ≤ s → n ≤ i → chunk_of (bounded n s) i ≡ None
chunk_past n s i pos l =
    chunk_none (bounded n s) i
    (λ k (e, p, a, b).
    let (_, v) = bounded_there n s k e p in
    let ok = bounded-origin n s pos k in
    let z : ⊥ = omega arith in z)
