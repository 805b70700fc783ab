use Rattle.std.specs.Prelude.{◌≡◌, ℕ, ◌+◌, ◌<◌, ◌≤◌, ◌⊎◌, List, Some, None, Ok, Err, ◌≢◌, slice_index}
use Rattle.std.specs.List.{slice_get}
use Rattle.edges.specs.declared.fault.Cause.TheVariants.{Length}
use Rattle.edges.specs.declared.fault.Fault.{Fault}
use Rattle.axes.specs.Axes.{Axis, origin, Contains}
use Rattle.grids.specs.Places.{Answer, refused}

-- No axis is absent, and the first that does not answer refuses with e.
abbrev pub FirstRefusal : (ℕ → Answer ℕ) → ℕ → Fault → Type 0
FirstRefusal f n e = ((k : ℕ) → k < n → f k ≢ Ok None)
    × ((a : ℕ) × (a < n) × (f a ≡ Err e) × ((k : ℕ) → k < a → (v : ℕ) × (f k ≡ Ok (Some v))))

-- What an answer tells of n axes, where axis a answers f a: present, each axis answers what the place holds; absent, an axis is absent; refused, a length is wrong or an axis refuses.
abbrev pub AxisByAxis : (ℕ → Answer ℕ) → ℕ → Answer (Unit {0}) → List ℕ → Type 0
AxisByAxis f n (Ok (Some u)) ks = (a : ℕ) → a < n → f a ≡ Ok (Some (slice_index ks a))
AxisByAxis f n (Ok None) ks = (a : ℕ) × (a < n) × (f a ≡ Ok None)
AxisByAxis f n (Err e) ks = (e ≡ refused Length) ⊎ FirstRefusal f n e

-- Chunk k contains index i and no other chunk does; below the size, k is below the count.
abbrev pub FoundAt : Axis → ℕ → ℕ → Type 0
FoundAt x i k = Contains x k i × ((j : ℕ) → Contains x j i → j ≡ k) × (i < x.size → k < x.count)

-- Index i stands at place p of a chunk: it is the chunk's origin and p more, with p below the edge.
abbrev pub PlacedAt : Axis → ℕ → ℕ → Type 0
PlacedAt x i p = (k : ℕ) × (e : ℕ) × (x.edge k ≡ Some e) × (p < e) × (i ≡ origin x k + p)

-- No chunk contains index i, and it is not below the size.
abbrev pub Nowhere : Axis → ℕ → Type 0
Nowhere x i = ((k : ℕ) → Contains x k i → ⊥) × (x.size ≤ i)

-- What an answer about indices tells: present, a fact of each index; absent, that on some axis the index is nowhere.
abbrev pub Tells : (Axis → ℕ → ℕ → Type 0) → List Axis → List ℕ → Answer (Unit {0}) → List ℕ → Type 0
Tells P xs is (Ok (Some u)) ks = (a : ℕ) (x : Axis) → slice_get xs a ≡ Some x → P x (slice_index is a) (slice_index ks a)
Tells P xs is (Ok None) ks = (a : ℕ) × (x : Axis) × (slice_get xs a ≡ Some x) × Nowhere x (slice_index is a)
Tells P xs is (Err f) ks = Unit {0}
