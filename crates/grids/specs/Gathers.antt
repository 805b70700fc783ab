use Rattle.std.specs.Prelude.{◌≡◌, ℕ, ◌^◌, ◌<◌, List, length, take, Some, None, Ok, Err, slice_index}
use Rattle.axes.specs.Axes.{Axis}
use Rattle.grids.specs.Places.{Answer}

-- An answer in the first n numbers of a list.
abbrev pub front : ℕ → Answer (List ℕ) → Answer (List ℕ)
front n (Ok (Some xs)) = Ok (Some (take n xs))
front n (Ok None) = Ok None
front n (Err f) = Err f

-- Whoever is asked at axis a about its number can only answer f a.
abbrev pub Answering : (ℕ → ℕ → Answer ℕ → Type 0) → List ℕ → (ℕ → Answer ℕ) → Type 0
Answering post ks f = (a : ℕ) (r : Answer ℕ) → a < length ks → post a (slice_index ks a) r → r ≡ f a

-- The same for every number of 64 bits, at each of some axes.
abbrev pub Asks : (ℕ → ℕ → Answer ℕ → Type 0) → List Axis → (List Axis → ℕ → ℕ → Answer ℕ) → Type 0
Asks post xs f = (a k : ℕ) (r : Answer ℕ) → a < length xs → k < 2 ^ 64 → post a k r → r ≡ f xs a k
