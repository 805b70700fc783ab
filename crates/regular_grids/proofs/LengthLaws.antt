use Rattle.std.proofs.Common.{◌≡◌, ℕ, zero, suc, ◌+◌, ◌<◌, ◌≤◌, eqb, leb, List, [], ◌∷◌, map, length, get_or, take, Some, None, Ok, Err, refl, ◌∙◌, arith}
use Rattle.std.specs.List.{range_with_len}
use Rattle.std.proofs.lemmas.Bool.{cond-true, eq-eqb, le-leb}
use Rattle.edges.specs.declared.fault.Cause.TheVariants.{Zero}
use Rattle.axes.specs.Axes.{Axis, axes_by}
use Rattle.axes.specs.Fitting.{LongestIn, Longest}
use Rattle.grids.specs.Places.{refused_at}
use Rattle.grids.specs.Making.{made_by}
use Rattle.grids.proofs.Making.{made_refused, made_all}
use Rattle.regular_grids.specs.declared.lengths.AxisLengths.{AxisLengths}
use Rattle.regular_grids.specs.LengthAxes.{axis_by, zero_edge, new_lengths}

edge_zero : (es : List ℕ) (a : ℕ) → get_or es a 0 ≡ 0 → zero_edge es a ≡ Some Zero
edge_zero es a h = cond-true (eqb (get_or es a 0) 0) _ _ (eq-eqb _ _ h)

-- the lists are as long as each other, and not longer than 8
module _ (rule : ℕ → ℕ → Axis) (sizes edges : List ℕ) (e : length sizes ≡ length edges) (l : length sizes ≤ 8) where
  passes : new_lengths rule sizes edges ≡ made_by (length sizes) (zero_edge edges) (λ a. rule (get_or sizes a 0) (get_or edges a 0))
  passes =
      cond-true (eqb (length sizes) (length edges)) _ _ (eq-eqb _ _ e) ∙ cond-true (leb (length sizes) 8) _ _ (le-leb _ _ l)

  pub new_refused : (a : ℕ) → a < length sizes → ((k : ℕ) → k < a → zero_edge edges k ≡ None) → get_or edges a 0 ≡ 0
      → new_lengths rule sizes edges ≡ Err (refused_at Zero a)
  new_refused a m b z = passes ∙ made_refused (length sizes) (zero_edge edges) _ a Zero m b (edge_zero edges a z)

  pub new_made : ((k : ℕ) → k < length sizes → zero_edge edges k ≡ None)
      → new_lengths rule sizes edges ≡ Ok (axes_by (length sizes) (λ a. rule (get_or sizes a 0) (get_or edges a 0)))
  new_made b = passes ∙ made_all (length sizes) (zero_edge edges) _ b

-- the first n places hold these sizes and edges
abbrev pub Filled : List ℕ → List ℕ → List AxisLengths → ℕ → Type 0
Filled sizes edges xs n =
    (k : ℕ) (d : AxisLengths) → k < n → ((get_or xs k d).size ≡ get_or sizes k 0) × ((get_or xs k d).edge.number ≡ get_or edges k 0)

-- what a function gives of places, and another of their numbers
pub axes_same : (f : AxisLengths → Axis) (g : ℕ → Axis) (xs : List AxisLengths) (a n : ℕ) → n ≤ length xs
    → ((k j : ℕ) (d : AxisLengths) → k < n → a + k ≡ j → f (get_or xs k d) ≡ g j) → map f (take n xs) ≡ map g (range_with_len a n)
axes_same f g xs a zero l h = refl
axes_same f g [] a (suc n) l h = absurd (let n : ⊥ = omega arith in n)
axes_same f g (x ∷ xs) a (suc n) l h =
    let p = h 0 a x (omega arith) (omega arith) in
    let q = axes_same f g xs (a + 1) n (omega arith) (λ k j d m e. h (suc k) j d (omega arith) (omega arith)) in
    cc

-- counts and longest edges, place by place
pub longest_of : (rule : ℕ → ℕ → Axis) (xs : List AxisLengths) (cs ms : List ℕ) (n : ℕ) → n ≤ length xs → n ≤ length cs → n ≤ length ms
    → ((k : ℕ) (d : AxisLengths) → k < n → (get_or cs k 0 ≡ (axis_by rule (get_or xs k d)).count) × LongestIn (axis_by rule (get_or xs k d)) (get_or ms k 0))
    → Longest (map (axis_by rule) (take n xs)) (take n cs) (take n ms)
longest_of rule xs cs ms zero lx lc lm h = tt
longest_of rule [] cs ms (suc n) lx lc lm h = absurd (let n : ⊥ = omega arith in n)
longest_of rule (x ∷ xs) [] ms (suc n) lx lc lm h = absurd (let n : ⊥ = omega arith in n)
longest_of rule (x ∷ xs) (c ∷ cs) [] (suc n) lx lc lm h = absurd (let n : ⊥ = omega arith in n)
longest_of rule (x ∷ xs) (c ∷ cs) (m ∷ ms) (suc n) lx lc lm h =
    let (p, q) = h 0 x (omega arith) in
    (p, q, longest_of rule xs cs ms n (omega arith) (omega arith) (omega arith) (λ k d l. h (suc k) d (omega arith)))
