use Rattle.std.proofs.Common.{◌≡◌, ℕ, ◌-◌, ◌^◌, ◌<◌, ◌≤◌, List, Some, None, Ok, Option, sym, ap, ◌∙◌, arith}
use Rattle.std.specs.List.{slice_get}
use Rattle.axes.specs.Axes.{Axis, origin, chunk_of}
use Rattle.axes.specs.ChunkLaws.{chunk_of-Contains}
use Rattle.grids.specs.Answers.{asked, of_axis, origin_answer, less_origin, element_of, on_axis, at_edge, origin_at}
use Rattle.grids.proofs.Never.{never}
use Rattle.grids.proofs.Asked.{within_fits}

-- The chunk of an index with 64 bits has an origin with 64 bits, at most the index.
module _ (xs : List Axis) (a i k : ℕ) (fits : i < 2 ^ 64) (h : Some k ≡ asked xs a (λ x. chunk_of x i)) where
  pub found_origin : (o : ℕ) × (origin_answer xs a k ≡ Ok (Some o)) × (o ≤ i) × (asked xs a (λ x. element_of x i) ≡ Some (i - o))
  found_origin = go (slice_get xs a) (sym h)
    where
      go : (y : Option Axis) → of_axis (λ x. chunk_of x i) y ≡ Some k
          → (o : ℕ) × (on_axis (origin_at a k) y ≡ Ok (Some o)) × (o ≤ i) × (of_axis (λ x. element_of x i) y ≡ Some (i - o))
      go None p = never (cc)
      go (Some x) p =
          let (e, there, low, high) = chunk_of-Contains x i k p in
          (origin x k, ap (at_edge a (λ e. origin x k)) there ∙ within_fits a (origin x k) (omega arith), low, ap (less_origin x i) p)
