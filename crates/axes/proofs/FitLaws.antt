use Rattle.std.proofs.Common.{◌≡◌, ℕ, zero, suc, ◌+◌, ◌-◌, ◌*◌, ◌<◌, ◌≤◌, true, ◌||◌, eqb, leb, List, [], ◌∷◌, map, length, get_or, take, drop, Decides, refl, ap, ap₂, ⊎_elim, le_refl, mul-le-mul, arith}
use Rattle.std.specs.List.{range_with_len}
use Rattle.std.proofs.lemmas.List.{drop_more}
use Rattle.std.proofs.lemmas.Bool.{cases_lt, and_parts, and_from, or_cases, or_left, or_right, leb-true, le-leb, eqb-true, eq-eqb}
use Rattle.axes.specs.Axes.{Axis, axes_by, edge_at}
use Rattle.axes.specs.Fitting.{product, InShape, cells, Fits, LongestIn, Longest, longest_below, longest_edge, fits_test}

counts_are : (xs : List Axis) (cs ms : List ℕ) → Longest xs cs ms → cs ≡ map (λ x. x.count) xs
counts_are [] [] [] l = refl
counts_are [] [] (m ∷ ms) l = absurd l
counts_are [] (c ∷ cs) ms l = absurd l
counts_are (x ∷ xs) [] ms l = absurd l
counts_are (x ∷ xs) (c ∷ cs) [] l = absurd l
counts_are (x ∷ xs) (c ∷ cs) (m ∷ ms) (e, _, l) = ap₂ ◌∷◌ e (counts_are xs cs ms l)

-- no chunk has more cells than the longest edges multiply to
cells_le : (xs : List Axis) (cs ms : List ℕ) → Longest xs cs ms → (ks : List ℕ) → InShape xs ks → cells xs ks ≤ product ms
cells_le [] [] [] l ks i = le_refl 1
cells_le [] [] (m ∷ ms) l ks i = absurd l
cells_le [] (c ∷ cs) ms l ks i = absurd l
cells_le (x ∷ xs) [] ms l ks i = absurd l
cells_le (x ∷ xs) (c ∷ cs) [] l ks i = absurd l
cells_le (x ∷ xs) (c ∷ cs) (m ∷ ms) l [] i = absurd i
cells_le (x ∷ xs) (c ∷ cs) (m ∷ ms) (e, b, l) (k ∷ ks) (h, i) = mul-le-mul (b.0 k h) (cells_le xs cs ms l ks i)

both_factors : (a b : ℕ) → 0 < a * b → (0 < a) × (0 < b)
both_factors zero b h = absurd (let n : ⊥ = omega arith in n)
both_factors (suc a) zero h = absurd (let n : ⊥ = omega arith in n)
both_factors (suc a) (suc b) h = (omega arith, omega arith)

-- some chunk has as many, where there is one
best : (xs : List Axis) (cs ms : List ℕ) → Longest xs cs ms → 0 < product cs → (ks : List ℕ) × InShape xs ks × (cells xs ks ≡ product ms)
best [] [] [] l p = ([], tt, refl)
best [] [] (m ∷ ms) l p = absurd l
best [] (c ∷ cs) ms l p = absurd l
best (x ∷ xs) [] ms l p = absurd l
best (x ∷ xs) (c ∷ cs) [] l p = absurd l
best (x ∷ xs) (c ∷ cs) (m ∷ ms) (e, b, l) p =
    let (q, r) = both_factors c (product cs) p in
    let (k, h, v) = b.1 (omega arith) in
    let (ks, i, w) = best xs cs ms l r in
    (k ∷ ks, (h, i), ap₂ ◌*◌ v w)

-- where a count is 0 there is no chunk
inside_pos : (xs : List Axis) (ks : List ℕ) → InShape xs ks → 0 < product (map (λ x. x.count) xs)
inside_pos [] ks i = omega arith
inside_pos (x ∷ xs) [] i = absurd i
inside_pos (x ∷ xs) (k ∷ ks) (h, i) =
    let r = inside_pos xs ks i in
    let m : 1 * 1 ≤ x.count * product (map (λ x. x.count) xs) = let l : 1 ≤ x.count = omega arith in mul-le-mul l r in
    omega arith

module _ (xs : List Axis) (cs ms : List ℕ) (l : Longest xs cs ms) (limit width : ℕ) where
  pub fits_empty : product cs ≡ 0 → Fits xs limit width
  fits_empty z =
      let e = ap product (counts_are xs cs ms l) in
      (omega arith, λ ks i. absurd (let p = inside_pos xs ks i in let n : ⊥ = omega arith in n))

  pub fits_from : product cs ≤ limit → product ms ≤ width → Fits xs limit width
  fits_from p q =
      let e = ap product (counts_are xs cs ms l) in
      (omega arith, λ ks i. let b = cells_le xs cs ms l ks i in omega arith)

  pub fits_counts : Fits xs limit width → product cs ≤ limit
  fits_counts w = let e = ap product (counts_are xs cs ms l) in let p = w.0 in omega arith

  pub fits_cells : Fits xs limit width → 0 < product cs → product ms ≤ width
  fits_cells w p = let (ks, i, e) = best xs cs ms l p in let b = w.1 ks i in omega arith

-- from the axes by number, and the fronts of two arrays
longest_from : (f : ℕ → Axis) (cs ms : List ℕ) (s n : ℕ) → s + n ≤ length cs → s + n ≤ length ms
    → ((a : ℕ) → s ≤ a → a < s + n → (get_or cs a 0 ≡ (f a).count) × LongestIn (f a) (get_or ms a 0))
    → Longest (map f (range_with_len s n)) (take n (drop s cs)) (take n (drop s ms))
longest_from f cs ms s zero lc lm h = tt
longest_from f cs ms s (suc n) lc lm h =
    let c = drop_more cs s 0 (omega arith) in
    let m = drop_more ms s 0 (omega arith) in
    let (p, q) = h s (le_refl s) (omega arith) in
    rw (c, m) (p, q, longest_from f cs ms (s + 1) n (omega arith) (omega arith) (λ a b d. h a (omega arith) (omega arith)))

pub longest_by : (f : ℕ → Axis) (cs ms : List ℕ) (n : ℕ) → n ≤ length cs → n ≤ length ms
    → ((a : ℕ) → a < n → (get_or cs a 0 ≡ (f a).count) × LongestIn (f a) (get_or ms a 0))
    → Longest (axes_by n f) (take (n - 0) cs) (take (n - 0) ms)
longest_by f cs ms n lc lm h =
    let z : n - 0 ≡ n = omega arith in
    rw z (longest_from f cs ms 0 n (omega arith) (omega arith) (λ a _ l. h a (omega arith)))

-- the longest edge, found by looking at each
longest_bounds : (x : Axis) (n k : ℕ) → k < n → edge_at x k ≤ longest_below x n
unfolding longest_below
longest_bounds x zero k h = absurd (let n : ⊥ = omega arith in n)
longest_bounds x (suc n) k h =
    ⊎_elim
    (λ (l : k < n). let b = longest_bounds x n k l in omega arith)
    (λ (l : n ≤ k). let e : k ≡ n = omega arith in let q : edge_at x k ≡ edge_at x n = ap (edge_at x) e in omega arith)
    (cases_lt k n)

longest_reached : (x : Axis) (n : ℕ) → 0 < n → (k : ℕ) × (k < n) × (edge_at x k ≡ longest_below x n)
unfolding longest_below
longest_reached x zero h = absurd (let n : ⊥ = omega arith in n)
longest_reached x (suc zero) h = (0, omega arith, omega arith)
longest_reached x (suc (suc n)) h =
    ⊎_elim
    (λ (l : longest_below x (suc n) < edge_at x (suc n)). (suc n, omega arith, omega arith))
    (λ (l : edge_at x (suc n) ≤ longest_below x (suc n)). let (k, b, e) = longest_reached x (suc n) (omega arith) in (k, omega arith, omega arith))
    (cases_lt (longest_below x (suc n)) (edge_at x (suc n)))

longest_all : (xs : List Axis) → Longest xs (map (λ x. x.count) xs) (map longest_edge xs)
longest_all [] = tt
longest_all (x ∷ xs) = (refl, (longest_bounds x x.count, longest_reached x x.count), longest_all xs)

-- the test decides
pub fits_decided : (xs : List Axis) (limit width : ℕ) → Decides (fits_test xs limit width) (Fits xs limit width)
fits_decided xs limit width = (there, back) where
  there : fits_test xs limit width ≡ true → Fits xs limit width
  there e =
      let (p, q) = and_parts (leb (product (map (λ x. x.count) xs)) limit) (eqb (product (map (λ x. x.count) xs)) 0 || leb (product (map longest_edge xs)) width) e in
      ⊎_elim
      (λ (z : eqb (product (map (λ x. x.count) xs)) 0 ≡ true). fits_empty xs _ _ (longest_all xs) limit width (eqb-true (product (map (λ x. x.count) xs)) 0 z))
      (λ (w : leb (product (map longest_edge xs)) width ≡ true).
      fits_from xs _ _ (longest_all xs) limit width (leb-true (product (map (λ x. x.count) xs)) limit p) (leb-true (product (map longest_edge xs)) width w))
      (or_cases (eqb (product (map (λ x. x.count) xs)) 0) (leb (product (map longest_edge xs)) width) q)

  back : Fits xs limit width → fits_test xs limit width ≡ true
  back f =
      and_from _ _ (le-leb (product (map (λ x. x.count) xs)) limit f.0)
      (⊎_elim
      (λ (l : 0 < product (map (λ x. x.count) xs)).
      or_right _ _ (le-leb (product (map longest_edge xs)) width (fits_cells xs _ _ (longest_all xs) limit width f l)))
      (λ (l : product (map (λ x. x.count) xs) ≤ 0). or_left _ _ (eq-eqb (product (map (λ x. x.count) xs)) 0 (omega arith)))
      (cases_lt 0 (product (map (λ x. x.count) xs))))
