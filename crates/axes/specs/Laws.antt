use Rattle.std.specs.Prelude.{◌≡◌, ℕ, ◌*◌, ◌/◌, ◌^◌, ◌<◌, ◌≤◌, min, ◌↔◌, List, length, Some, None}
use Rattle.std.specs.List.{slice_get}
use Rattle.axes.specs.Axes.{Axis, origin, Contains, chunk_of, LawfulAxis, fixed, bounded, varying}

-- What holds of every lawful axis.
abbrev pub AxisLaws : Type 0
AxisLaws = (x : Axis) → LawfulAxis x
    → ((i j k : ℕ) → Contains x j i → Contains x k i → j ≡ k)
    × ((i k : ℕ) → (chunk_of x i ≡ Some k) ↔ Contains x k i)
    × ((i : ℕ) → i < x.size → (k : ℕ) × (k < x.count) × Contains x k i)

-- The three rules give lawful axes.
abbrev pub KindsLawful : Type 0
KindsLawful =
    ((n s : ℕ) → 1 ≤ s → n < 2 ^ 64 → s < 2 ^ 64 → LawfulAxis (fixed n s))
    × ((n s : ℕ) → 1 ≤ s → n < 2 ^ 64 → s < 2 ^ 64 → LawfulAxis (bounded n s))
    × ((n : ℕ) (es : List ℕ) → n < 2 ^ 64 → ((k e : ℕ) → slice_get es k ≡ Some e → 1 ≤ e)
    → origin (varying n es) (length es) < 2 ^ 64 → n ≤ origin (varying n es) (length es) → LawfulAxis (varying n es))

-- What holds of a bounded axis.
abbrev pub BoundedLaws : Type 0
BoundedLaws = (n s : ℕ) → 1 ≤ s → n < 2 ^ 64 → s < 2 ^ 64
    → ((k : ℕ) → origin (bounded n s) k ≡ min (k * s) n)
    × ((i : ℕ) → i < n → chunk_of (bounded n s) i ≡ Some (i / s))
    × ((i : ℕ) → n ≤ i → chunk_of (bounded n s) i ≡ None)
