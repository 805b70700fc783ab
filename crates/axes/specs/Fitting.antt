use Rattle.std.specs.Prelude.{◌≡◌, ℕ, zero, suc, ◌*◌, ◌<◌, ◌≤◌, max, Bool, ◌&&◌, ◌||◌, List, [], ◌∷◌, map, ◌==◌, nat_le}
use Rattle.axes.specs.Axes.{Axis, edge_at}

abbrev pub product : List ℕ → ℕ
product [] = 1
product (n ∷ ns) = n * product ns

-- a chunk, by its index on each axis, is in the grid shape
abbrev pub InShape : List Axis → List ℕ → Type 0
InShape [] [] = Unit {0}
InShape [] (k ∷ ks) = ⊥
InShape (x ∷ xs) [] = ⊥
InShape (x ∷ xs) (k ∷ ks) = (k < x.count) × InShape xs ks

-- its number of cells: the product of its edges
abbrev pub cells : List Axis → List ℕ → ℕ
cells [] ks = 1
cells (x ∷ xs) [] = 1
cells (x ∷ xs) (k ∷ ks) = edge_at x k * cells xs ks

-- At most `limit` chunks in the grid shape, each of at most `width` cells.
abbrev pub Fits : List Axis → ℕ → ℕ → Type 0
Fits xs limit width =
    (product (map (λ x. x.count) xs) ≤ limit)
    × ((ks : List ℕ) → InShape xs ks → cells xs ks ≤ width)

-- the longest edge of an axis is m
abbrev pub LongestIn : Axis → ℕ → Type 0
LongestIn x m =
    ((k : ℕ) → k < x.count → edge_at x k ≤ m)
    × (0 < x.count → (k : ℕ) × (k < x.count) × (edge_at x k ≡ m))

-- the counts and the longest edges of the axes
abbrev pub Longest : List Axis → List ℕ → List ℕ → Type 0
Longest [] [] [] = Unit {0}
Longest [] [] (m ∷ ms) = ⊥
Longest [] (c ∷ cs) ms = ⊥
Longest (x ∷ xs) [] ms = ⊥
Longest (x ∷ xs) (c ∷ cs) [] = ⊥
Longest (x ∷ xs) (c ∷ cs) (m ∷ ms) = (c ≡ x.count) × LongestIn x m × Longest xs cs ms

-- the longest edge among the first n chunks of an axis
unfoldable pub longest_below : Axis → ℕ → ℕ
longest_below x zero = 0
longest_below x (suc n) = max (longest_below x n) (edge_at x n)

abbrev pub longest_edge : Axis → ℕ
longest_edge x = longest_below x x.count

-- `Fits` as a test: by the counts, and by the longest edges where there is a chunk
abbrev pub fits_test : List Axis → ℕ → ℕ → Bool
fits_test xs limit width =
    nat_le (product (map (λ x. x.count) xs)) limit
    && (product (map (λ x. x.count) xs) == 0 || nat_le (product (map longest_edge xs)) width)
