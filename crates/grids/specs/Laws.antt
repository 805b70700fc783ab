use Rattle.std.specs.Prelude.{◌≡◌, ℕ, ◌<◌, ◌↔◌, List, length, Some, None, Ok, Err, ◌≢◌, slice_index}
use Rattle.edges.specs.declared.fault.Fault.{Fault}
use Rattle.grids.specs.Answers.{gathered}
use Rattle.grids.specs.Places.{Answer}

-- Answers go axis by axis: a list exactly when each axis answers, absence exactly when an axis is absent, and else the first refusal.
abbrev pub GatheredLaws : Type 0
GatheredLaws = (f : ℕ → Answer ℕ) (n : ℕ)
    → ((xs : List ℕ) → (gathered f n ≡ Ok (Some xs)) ↔ ((length xs ≡ n) × ((a : ℕ) → a < n → f a ≡ Ok (Some (slice_index xs a)))))
    × ((gathered f n ≡ Ok None) ↔ ((a : ℕ) × (a < n) × (f a ≡ Ok None)))
    × ((a : ℕ) (e : Fault) → a < n → ((k : ℕ) → k < n → f k ≢ Ok None) → ((k : ℕ) → k < a → (v : ℕ) × (f k ≡ Ok (Some v))) → f a ≡ Err e
    → gathered f n ≡ Err e)
