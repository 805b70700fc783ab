use Rattle.std.specs.Prelude.{◌≡◌, ℕ, zero, suc, ◌+◌, ◌-◌, ◌^◌, ◌<◌, ◌≤◌, Bool, true, false, cond, List, [], ◌∷◌, is_some, Some, None, nat_lt, refl}
use Rattle.std.proofs.Common.{ap, ap₂, ◌∙◌, arith, le_refl, pow-suc, pow_pos}
use Rattle.std.proofs.Math.Pow.{pow-lt}
use Rattle.std.proofs.lemmas.Bool.{lt-ltb, ltb-true, both_ways}
use Rattle.axes.specs.Axes.{Axis, edge_at, origin, LawfulAxis, Lawful}
use Rattle.axes.specs.ChunkLaws.{some_value}
use Rattle.own_grid.specs.declared.doubling.Doubling.{Doubling}

-- An axis of n chunks: chunk k has edge 2 ^ k, and the edges sum to the size.
abbrev pub doubling : ℕ → Axis
doubling n = record { size = 2 ^ n - 1; count = n; edge = λ k. cond (nat_lt k n) (Some (2 ^ k)) None }

-- What the grid means.
abbrev pub doubling_axes : Doubling → List Axis
doubling_axes g = doubling g.number ∷ []

-- an edge of the axis: the chunk is below the number of chunks
pub doubling_there : (n k e : ℕ) → (doubling n).edge k ≡ Some e → (k < n) × (e ≡ 2 ^ k)
doubling_there n k e h = go (nat_lt k n) refl h
  where
    go : (b : Bool) → nat_lt k n ≡ b → cond b (Some (2 ^ k)) None ≡ Some e → (k < n) × (e ≡ 2 ^ k)
    go true p q = (ltb-true _ _ p, cc)
    go false p q = absurd (both_ways false refl (ap is_some q))

pub doubling_edge : (n k : ℕ) → k < n → edge_at (doubling n) k ≡ 2 ^ k
doubling_edge n k l = rw (lt-ltb _ _ l)

pub doubling-origin : (n k : ℕ) → k ≤ n → origin (doubling n) k ≡ 2 ^ k - 1
unfolding origin
doubling-origin n zero l = refl
doubling-origin n (suc k) l =
    let r = doubling-origin n k (omega arith) in
    let e = doubling_edge n k l in
    let p = pow_pos k in
    let s = pow-suc 2 k in
    ap₂ ◌+◌ r e ∙ omega arith

pub doubling_lawful : (n : ℕ) → n ≤ 63 → LawfulAxis (doubling n)
doubling_lawful n few = record {
  positive = λ k e h. let (l, v) = doubling_there n k e h in let p = pow_pos k in omega arith;
  gapless = λ j k l h.
      let (e, p) = some_value ((doubling n).edge k) h in
      let (m, v) = doubling_there n k e p in
      let r : j < n = omega arith in
      rw (lt-ltb _ _ r);
  counted = λ k l. rw (lt-ltb _ _ l);
  covers = let o = doubling-origin n n (le_refl n) in omega arith;
  size_fits = let l : n < 64 = omega arith in let p = pow-lt l in omega arith;
  count_fits = omega arith;
  edge_fits = λ k e h.
      let (l, v) = doubling_there n k e h in
      let m : k < 64 = omega arith in
      let p = pow-lt m in
      omega arith;
}

-- The proof of the law, which the trait asks for.
pub doubling_grid_lawful : (g : Doubling) → Lawful (doubling_axes g)
doubling_grid_lawful g = (omega arith, (doubling_lawful g.number g.few, tt))
