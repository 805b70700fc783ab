use Rattle.std.proofs.Common.{◌≡◌, ℕ, zero, suc, ◌+◌, ◌-◌, ◌*◌, ◌^◌, ◌<◌, ◌≤◌, [], ◌∷◌, Some, None, Ok, Option, sym, ap, ◌∙◌, pow-suc, add-one, arith, pow_pos, pow_mono}
use lib.Pow.{pow-lt}
use Rattle.std.specs.Option.{MatchOption}
use Rattle.std.proofs.lemmas.Bool.{lt-ltb}
use Rattle.axes.specs.Axes.{Axis, origin, chunk_of}
use Rattle.axes.specs.ChunkLaws.{chunk_contains, chunk_none}
use Rattle.axes.specs.Fitting.{LongestIn}
use Rattle.grids.specs.Answers.{asked, origin_answer, within, at_edge, origin_at}
use Rattle.grids.proofs.Never.{never}
use Rattle.grids.proofs.Asked.{within_fits}
use Rattle.own_grid.specs.DoublingAxes.{doubling, doubling_there, doubling_edge, doubling-origin, doubling_lawful}

-- the first chunk that ends past an index contains it
pub chunk_found : (n k i : ℕ) → n ≤ 63 → k < n → 2 ^ k - 1 ≤ i → i < 2 ^ (k + 1) - 1 → chunk_of (doubling n) i ≡ Some k
chunk_found n k i few l low high =
    let o = doubling-origin n k (omega arith) in
    let p = pow_pos k in
    let s : 2 ^ (k + 1) ≡ 2 ^ k * 2 = rw add-one (pow-suc 2 k) in
    chunk_contains (doubling n) (doubling_lawful n few) i k (2 ^ k, rw (lt-ltb _ _ l), omega arith, omega arith)

-- past the last end there is no chunk
pub chunk_past : (n i : ℕ) → 2 ^ n - 1 ≤ i → chunk_of (doubling n) i ≡ None
chunk_past n i h =
    chunk_none (doubling n) i
    (λ k (e, p, low, high).
    let (l, v) = doubling_there n k e p in
    let o = doubling-origin n k (omega arith) in
    let q = pow_pos k in
    let s = pow-suc 2 k in
    let m = pow_mono {i = suc k} {j = n} l in
    let z : ⊥ = omega arith in z)

-- a search through the chunks for the first that ends past an index
pub chunk_sought : (n i : ℕ) (r : Option ℕ) → n ≤ 63
    → MatchOption r ((k : ℕ) → 0 ≤ k → k < n → 2 ^ (k + 1) - 1 ≤ i) (λ k. (0 ≤ k) × (k < n) × (i < 2 ^ (k + 1) - 1) × ((j : ℕ) → 0 ≤ j → j < k → 2 ^ (j + 1) - 1 ≤ i))
    → r ≡ chunk_of (doubling n) i
chunk_sought zero i None few h = sym (chunk_past zero i (omega arith))
chunk_sought (suc n) i None few h = sym (chunk_past (suc n) i (rw add-one at (h n (omega arith) (omega arith))))
chunk_sought n i (Some zero) few (a, l, high, before) = sym (chunk_found n zero i few l (omega arith) high)
chunk_sought n i (Some (suc k)) few (a, l, high, before) =
    sym (chunk_found n (suc k) i few l (rw add-one at (before k (omega arith) (omega arith))) high)

-- the origin of a chunk is one less than its edge
origin_there : (n k a e : ℕ) → n ≤ 63 → Some e ≡ (doubling n).edge k → Ok (Some (e - 1)) ≡ origin_at a k (doubling n)
origin_there n k a e few h =
    let (l, v) = doubling_there n k e (sym h) in
    let o : origin (doubling n) k ≡ e - 1 = let q = doubling-origin n k (omega arith) in omega arith in
    let m : k < 64 = omega arith in
    let p = pow-lt m in
    sym (ap (at_edge a (λ e. origin (doubling n) k)) (sym h) ∙ ap (within a) o ∙ within_fits a (e - 1) (omega arith))

pub origin_by_edge : (n a k e : ℕ) → n ≤ 63 → Some e ≡ asked (doubling n ∷ []) a (λ x. x.edge k) → Ok (Some (e - 1)) ≡ origin_answer (doubling n ∷ []) a k
origin_by_edge n zero k e few h = origin_there n k zero e few h
origin_by_edge n (suc a) k e few h = never (cc)

-- the one axis
pub asked_first : {B : Type 0} (x : Axis) (a : ℕ) (q : Axis → Option B) → a ≡ 0 → asked (x ∷ []) a q ≡ q x
asked_first x a q e = ap (λ (k : ℕ). asked (x ∷ []) k q) e

-- the last chunk is the longest
pub doubling_longest : (n : ℕ) → LongestIn (doubling n) (2 ^ (n - 1))
doubling_longest n = (
  (λ k l. let e = doubling_edge n k l in let m : k ≤ n - 1 = omega arith in let p = pow_mono m in omega arith),
  (λ l. let b : n - 1 < n = omega arith in (n - 1, b, doubling_edge n (n - 1) b)),
)
