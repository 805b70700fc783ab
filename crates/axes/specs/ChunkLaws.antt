use Rattle.std.specs.Prelude.{◌≡◌, ℕ, zero, suc, ◌+◌, ◌<◌, ◌≤◌, Bool, true, false, is_some, Some, None, Option, nat_le, nat_lt, refl}
use Rattle.std.proofs.Common.{ap, ⊎_elim, zero-le, arith, le_refl, le_trans}
use Rattle.std.proofs.Math.Arith.{le-zero}
use Rattle.std.specs.Option.{unwrap_or}
use Rattle.std.proofs.lemmas.Bool.{cases_lt, cases_order, and_parts, and_from, ltb-true, leb-true, lt-ltb, le-leb, both_ways}
use Rattle.axes.specs.Axes.{Axis, edge_at, origin, Contains, reaches, holds, last_below, chunk_of, LawfulAxis}

pub origin_mono : (x : Axis) (j k : ℕ) → j ≤ k → origin x j ≤ origin x k
unfolding origin
origin_mono x j zero h = rw (le-zero h) (le_refl _)
origin_mono x j (suc k) h =
    ⊎_elim
    (λ (l : k < j). let e : j ≡ suc k = omega arith in rw e (le_refl _))
    (λ (l : j ≤ k). let r = origin_mono x j k l in omega arith)
    (cases_lt k j)

-- what lies in chunk j lies before every later chunk
pub before_later : (x : Axis) (i j k : ℕ) → Contains x j i → origin x k ≤ i → j < k → ⊥
unfolding origin
before_later x i j k (e, p, low, high) q l =
    let m = origin_mono x (suc j) k l in
    let v : edge_at x j ≡ e = ap (λ o. unwrap_or o 0) p in
    omega arith

pub one_chunk : (x : Axis) (i j k : ℕ) → Contains x j i → Contains x k i → j ≡ k
one_chunk x i j k a b =
    ⊎_elim
    (λ (e : j ≡ k). e)
    (⊎_elim
    (λ (l : j < k). absurd (before_later x i j k a b.2 l))
    (λ (l : k < j). absurd (before_later x i k j b a.2 l)))
    (cases_order j k)

-- the test and the statement
pub holds-Contains : (x : Axis) (k i : ℕ) → holds x k i ≡ true → Contains x k i
holds-Contains x k i h = go (x.edge k) refl h
  where
    go : (o : Option ℕ) → x.edge k ≡ o → reaches o (origin x k) i ≡ true → Contains x k i
    go None p t = absurd (both_ways false refl t)
    go (Some e) p t =
        let (a, b) = and_parts (nat_le (origin x k) i) (nat_lt i (origin x k + e)) t in
        (e, p, leb-true _ _ a, ltb-true _ _ b)

pub Contains-holds : (x : Axis) (k i : ℕ) → Contains x k i → holds x k i ≡ true
Contains-holds x k i (e, p, low, high) = rw p (and_from _ _ (le-leb _ _ low) (lt-ltb _ _ high))

-- looking through the chunks
pub last_below_passes : (n : ℕ) (t : ℕ → Bool) (k : ℕ) → last_below n t ≡ Some k → t k ≡ true
unfolding last_below
last_below_passes zero t k h = cc
last_below_passes (suc n) t k h = go (t n) refl (last_below_passes n t k) h
  where
    go : (b : Bool) → t n ≡ b → (last_below n t ≡ Some k → t k ≡ true)
        → (elim b as (λ _. Option ℕ) [ true ↦ Some n | false ↦ last_below n t ]) ≡ Some k → t k ≡ true
    go true p r q = cc
    go false p r q = r q

pub last_below_finds : (n : ℕ) (t : ℕ → Bool) (k : ℕ) → k < n → t k ≡ true → ((j : ℕ) → t j ≡ true → j ≡ k) → last_below n t ≡ Some k
unfolding last_below
last_below_finds zero t k l h u = absurd (omega arith)
last_below_finds (suc n) t k l h u = go (t n) refl (λ l'. last_below_finds n t k l' h u)
  where
    go : (b : Bool) → t n ≡ b → (k < n → last_below n t ≡ Some k)
        → (elim b as (λ _. Option ℕ) [ true ↦ Some n | false ↦ last_below n t ]) ≡ Some k
    go true p r = ap Some (u n p)
    go false p r =
        ⊎_elim
        (λ (l' : k < n). r l')
        (λ (l' : n ≤ k). let e : n ≡ k = omega arith in absurd (both_ways (t n) p (rw e h)))
        (cases_lt k n)

-- chunk_of, for any axis
pub chunk_of-Contains : (x : Axis) (i k : ℕ) → chunk_of x i ≡ Some k → Contains x k i
unfolding chunk_of
chunk_of-Contains x i k h = holds-Contains x k i (last_below_passes (suc i) (λ k. holds x k i) k h)

Contains-chunk_of : (x : Axis) (i k : ℕ) → k ≤ i → Contains x k i → chunk_of x i ≡ Some k
unfolding chunk_of
Contains-chunk_of x i k l h =
    last_below_finds (suc i) (λ k. holds x k i) k (omega arith) (Contains-holds x k i h)
    (λ j t. one_chunk x i j k (holds-Contains x j i t) h)

-- a chunk with an edge begins at its number or later
pub some_value : {A : Type 0} (o : Option A) → is_some o ≡ true → (a : A) × (o ≡ Some a)
some_value None h = absurd (both_ways false refl h)
some_value (Some a) h = (a, refl)

pub has_edge : (x : Axis) → LawfulAxis x → (k : ℕ) → is_some (x.edge k) ≡ true → (x.edge k ≡ Some (edge_at x k)) × (1 ≤ edge_at x k)
has_edge x lawful k h =
    let (e, p) = some_value (x.edge k) h in
    let v : edge_at x k ≡ e = ap (λ o. unwrap_or o 0) p in
    let q : x.edge k ≡ Some (edge_at x k) = rw v p in
    (q, lawful.positive k (edge_at x k) q)

pub origin_above : (x : Axis) (k : ℕ) → ((j : ℕ) → j < k → 1 ≤ edge_at x j) → k ≤ origin x k
unfolding origin
origin_above x zero h = zero-le
origin_above x (suc k) h =
    let r = origin_above x k (λ j l. h j (omega arith)) in
    let e = h k (le_refl _) in
    omega arith

pub number_below : (x : Axis) → LawfulAxis x → (i k : ℕ) → Contains x k i → k ≤ i
number_below x lawful i k (e, p, low, high) =
    le_trans
    (origin_above x k (λ j l. (has_edge x lawful j (lawful.gapless j k (omega arith) (ap is_some p))).1))
    low

-- an index below the end of the first n chunks is in one of them
pub covered : (x : Axis) (n i : ℕ) → ((k : ℕ) → k < n → is_some (x.edge k) ≡ true) → i < origin x n
    → (k : ℕ) × (k < n) × Contains x k i
unfolding origin
covered x zero i h l = absurd (omega arith)
covered x (suc n) i h l =
    ⊎_elim
    (λ (b : i < origin x n).
    let (k, lk, c) = covered x n i (λ k l'. h k (omega arith)) b in
    (k, omega arith, c))
    (λ (b : origin x n ≤ i).
    let (e, p) = some_value (x.edge n) (h n (le_refl _)) in
    let v : edge_at x n ≡ e = ap (λ o. unwrap_or o 0) p in
    (n, le_refl _, (e, p, b, omega arith)))
    (cases_lt i (origin x n))

pub chunk_contains : (x : Axis) → LawfulAxis x → (i k : ℕ) → Contains x k i → chunk_of x i ≡ Some k
chunk_contains x l i k c = Contains-chunk_of x i k (number_below x l i k c) c

-- an index that no chunk contains has no chunk
pub chunk_none : (x : Axis) (i : ℕ) → ((k : ℕ) → Contains x k i → ⊥) → chunk_of x i ≡ None
chunk_none x i h = go (chunk_of x i) refl
  where
    go : (o : Option ℕ) → chunk_of x i ≡ o → chunk_of x i ≡ None
    go None p = p
    go (Some k) p = absurd (h k (chunk_of-Contains x i k p))
