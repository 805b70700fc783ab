use Rattle.std.specs.Prelude.{◌≡◌, ℕ, zero, suc, ◌+◌, ◌-◌, ◌*◌, ◌/◌, ◌%◌, ◌^◌, ◌<◌, ◌≤◌, min, Bool, true, false, cond, ◌&&◌, List, [], ◌∷◌, map, length, is_some, Some, None, Option, nat_le, nat_lt}
use Rattle.std.specs.List.{range_with_len, slice_get}
use Rattle.std.specs.Option.{unwrap_or}

-- One axis: its size, its number of chunks, and the edge of each chunk that has one.
pub record Axis : Type 0 where
  pub size : ℕ
  pub count : ℕ
  pub edge : ℕ → Option ℕ

-- the edge of chunk k, and 0 where it has none
abbrev pub edge_at : Axis → ℕ → ℕ
edge_at x k = unwrap_or (x.edge k) 0

-- The origin of chunk k: the sum of the edges before it.
unfoldable pub origin : Axis → ℕ → ℕ
origin x zero = 0
origin x (suc k) = origin x k + edge_at x k

-- Chunk k contains index i: origin ≤ i < origin + edge.
abbrev pub Contains : Axis → ℕ → ℕ → Type 0
Contains x k i = (e : ℕ) × (x.edge k ≡ Some e) × (origin x k ≤ i) × (i < origin x k + e)

-- the same as a test
abbrev pub reaches : Option ℕ → ℕ → ℕ → Bool
reaches None o i = false
reaches (Some e) o i = nat_le o i && nat_lt i (o + e)

abbrev pub holds : Axis → ℕ → ℕ → Bool
holds x k i = reaches (x.edge k) (origin x k) i

-- the greatest number below n that passes a test
unfoldable pub last_below : ℕ → (ℕ → Bool) → Option ℕ
last_below zero t = None
last_below (suc n) t = elim (t n) [ true ↦ Some n | false ↦ last_below n t ]

-- the chunk that contains index i: chunk k begins at k or later, so 0 .. i are looked through
unfoldable pub chunk_of : Axis → ℕ → Option ℕ
chunk_of x i = last_below (suc i) (λ k. holds x k i)

-- The law of one axis.
pub record LawfulAxis (x : Axis) : Type 0 where
  pub positive : (k e : ℕ) → x.edge k ≡ Some e → 1 ≤ e
  pub gapless : (j k : ℕ) → j ≤ k → is_some (x.edge k) ≡ true → is_some (x.edge j) ≡ true
  pub counted : (k : ℕ) → k < x.count → is_some (x.edge k) ≡ true
  pub covers : x.size ≤ origin x x.count
  pub size_fits : x.size < 2 ^ 64
  pub count_fits : x.count < 2 ^ 64
  pub edge_fits : (k e : ℕ) → x.edge k ≡ Some e → e < 2 ^ 64

abbrev pub Each : {A : Type 0} → (A → Type 0) → List A → Type 0
Each P [] = Unit {0}
Each P (x ∷ xs) = P x × Each P xs

-- The law of a grid.
abbrev pub Lawful : List Axis → Type 0
Lawful xs = (length xs ≤ 8) × Each LawfulAxis xs

-- n axes, by number
abbrev pub axes_by : ℕ → (ℕ → Axis) → List Axis
axes_by n f = map f (range_with_len 0 n)

-- a quotient rounded up
abbrev pub rounded_up : ℕ → ℕ → ℕ
rounded_up n s = n / s + min 1 (n % s)

-- Regular, and a Fixed axis: every chunk has edge s.
abbrev pub fixed : ℕ → ℕ → Axis
fixed n s = record { size = n; count = rounded_up n s; edge = λ _. Some s }

-- Bounded: the last chunk ends at the size, and none follows.
abbrev pub bounded : ℕ → ℕ → Axis
bounded n s = record { size = n; count = rounded_up n s; edge = λ k. cond (nat_lt k (rounded_up n s)) (Some (min s (n - k * s))) None }

-- Varying: the edges are listed.
abbrev pub varying : ℕ → List ℕ → Axis
varying n es = record { size = n; count = length es; edge = slice_get es }
