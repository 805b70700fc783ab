use Rattle.std.proofs.Common.{◌≡◌, ℕ, zero, suc, ◌-◌, ◌<◌, ◌≤◌, List, [], ◌∷◌, length, get_or, Some, None, Ok, Err, Option, refl, subst, ⊎_elim, arith}
use Rattle.std.specs.List.{slice_get}
use Rattle.std.proofs.lemmas.Bool.{cases_lt}
use Rattle.axes.specs.Axes.{Axis, origin, Contains, chunk_of, LawfulAxis, Lawful}
use Rattle.axes.specs.AxisLaws.{nth_below}
use Rattle.axes.specs.ChunkLaws.{one_chunk, chunk_of-Contains, chunk_contains, covered}
use Rattle.grids.specs.Places.{Answer, Gives}
use Rattle.grids.specs.Answers.{of_axis, asked, less_origin, element_of, list_answer, chunk_answer, element_answer}
use Rattle.grids.specs.Found.{AxisByAxis, FoundAt, PlacedAt, Nowhere, Tells}
use Rattle.grids.proofs.Never.{never}
use Rattle.grids.proofs.Asked.{each_at}
use Rattle.grids.proofs.GatheredLaws.{axis_by_axis}

-- an axis stands at each number below their number
nth_there : (xs : List Axis) (a : ℕ) → a < length xs → (x : Axis) × (slice_get xs a ≡ Some x)
nth_there [] a l = absurd (let n : ⊥ = omega arith in n)
nth_there (y ∷ xs) zero l = (y, refl)
nth_there (y ∷ xs) (suc a) l = nth_there xs a (omega arith)

module _ (x : Axis) (lawful : LawfulAxis x) (i : ℕ) where
  -- an index below the size has a chunk below the count
  below_size : i < x.size → (k : ℕ) × (k < x.count) × Contains x k i
  below_size l = covered x x.count i lawful.counted (let b = lawful.covers in omega arith)

  found_at : (k : ℕ) → chunk_of x i ≡ Some k → FoundAt x i k
  found_at k p =
      let c = chunk_of-Contains x i k p in (
        c,
        (λ j d. one_chunk x i j k d c),
        (λ l. let (m, b, d) = below_size l in subst (λ n. n < x.count) (one_chunk x i m k d c) b),
      )

  nowhere : chunk_of x i ≡ None → Nowhere x i
  nowhere p =
      let none : (k : ℕ) → Contains x k i → ⊥ = λ k c. let q = chunk_contains x lawful i k c in never (cc) in (
        none,
        ⊎_elim
            (λ (l : i < x.size). let (k, b, c) = below_size l in absurd (none k c))
            (λ (l : x.size ≤ i). l)
            (cases_lt i x.size),
      )

  placed_at : (p : ℕ) → element_of x i ≡ Some p → PlacedAt x i p
  placed_at p h = go (chunk_of x i) refl h
    where
      go : (o : Option ℕ) → chunk_of x i ≡ o → less_origin x i o ≡ Some p → PlacedAt x i p
      go None q h = never (cc)
      go (Some k) q h =
          let (e, there, low, high) = chunk_of-Contains x i k q in
          let v : i - origin x k ≡ p = cc in
          (k, e, there, omega arith, omega arith)

  no_place : element_of x i ≡ None → Nowhere x i
  no_place h = go (chunk_of x i) refl h
    where
      go : (o : Option ℕ) → chunk_of x i ≡ o → less_origin x i o ≡ None → Nowhere x i
      go None q h = nowhere q
      go (Some k) q h = never (cc)

-- one question of an axis
abbrev asks : (Axis → ℕ → Option ℕ) → List Axis → ℕ → ℕ → Answer ℕ
asks h xs a i = Ok (asked xs a (λ x. h x i))

-- What the answers on all axes tell, from what one axis answers.
module _ (P : Axis → ℕ → ℕ → Type 0) (h : Axis → ℕ → Option ℕ) (xs : List Axis) (lawful : Lawful xs)
    (there : (x : Axis) → LawfulAxis x → (i k : ℕ) → h x i ≡ Some k → P x i k)
    (absent : (x : Axis) → LawfulAxis x → (i : ℕ) → h x i ≡ None → Nowhere x i) (is : List ℕ) where
  tells : (r : Answer (Unit {0})) (ks : List ℕ) → AxisByAxis (λ a. asks h xs a (get_or is a 0)) (length xs) r ks → Tells P xs is r ks
  tells (Ok (Some u)) ks each =
      λ a x n.
      let e = each a (nth_below xs a x n) in
      let q : of_axis (λ x. h x (get_or is a 0)) (slice_get xs a) ≡ Some (get_or ks a 0) = cc in
      there x (each_at LawfulAxis xs a x lawful.1 n) (get_or is a 0) (get_or ks a 0)
      (subst (λ o. of_axis (λ x. h x (get_or is a 0)) o ≡ Some (get_or ks a 0)) n q)
  tells (Ok None) ks (a, l, e) =
      let (x, n) = nth_there xs a l in
      let q : of_axis (λ x. h x (get_or is a 0)) (slice_get xs a) ≡ None = cc in (
        a,
        x,
        n,
        absent x (each_at LawfulAxis xs a x lawful.1 n) (get_or is a 0)
            (subst (λ o. of_axis (λ x. h x (get_or is a 0)) o ≡ None) n q),
      )
  tells (Err f) ks t = tt

pub found_tells : (xs : List Axis) → Lawful xs → (is before after : List ℕ) (r : Answer (Unit {0}))
    → Gives before after r (list_answer chunk_answer xs is (length before)) → Tells FoundAt xs is r after
found_tells xs lawful is before after r gives =
    tells FoundAt chunk_of xs lawful found_at nowhere is r after (axis_by_axis chunk_answer xs is before after r gives)

pub placed_tells : (xs : List Axis) → Lawful xs → (is before after : List ℕ) (r : Answer (Unit {0}))
    → Gives before after r (list_answer element_answer xs is (length before)) → Tells PlacedAt xs is r after
placed_tells xs lawful is before after r gives =
    tells PlacedAt element_of xs lawful placed_at no_place is r after (axis_by_axis element_answer xs is before after r gives)
