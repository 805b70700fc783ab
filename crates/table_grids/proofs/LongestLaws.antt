use Rattle.std.proofs.Common.{◌≡◌, ℕ, zero, suc, ◌<◌, ◌≤◌, max, List, [], ◌∷◌, fold, length, get_or, Option, unwrap_or, refl, ap, ◌∙◌, ⊎_elim, le_refl, arith}
use Rattle.std.proofs.lemmas.Bool.{cases_lt}
use Rattle.std.proofs.lemmas.List.{length-map}
use Rattle.edges.specs.declared.table.OffsetSize.{OffsetSize}
use Rattle.edges.specs.Answers.{no_entry}
use Rattle.axes.specs.Axes.{edge_at, varying}
use Rattle.axes.specs.Fitting.{LongestIn}
use Rattle.table_grids.specs.declared.dimension.Dimension.{Dimension}
use Rattle.table_grids.specs.declared.dimension.Dimension.TheVariants.{Fixed, Varying}
use Rattle.table_grids.specs.Spans.{span, sizes, axis_of, longest_of, longest_in}
use Rattle.table_grids.specs.Valid.{size_at}

-- the greatest of the sizes, gathered from the front
pub longest_fold : (es : List OffsetSize) (m : ℕ) → fold (λ m e. max e.size m) m es ≡ max m (longest_of es)
longest_fold [] m = omega arith
longest_fold (e ∷ es) m = let r = longest_fold es (max e.size m) in omega arith

above : (es : List OffsetSize) (k : ℕ) → k < length es → (get_or es k no_entry).size ≤ longest_of es
above [] k l = absurd (let n : ⊥ = omega arith in n)
above (e ∷ es) zero l = omega arith
above (e ∷ es) (suc k) l = let r = above es k (omega arith) in omega arith

reached : (es : List OffsetSize) → 0 < length es → (k : ℕ) × (k < length es) × ((get_or es k no_entry).size ≡ longest_of es)
reached [] l = absurd (let n : ⊥ = omega arith in n)
reached (e ∷ es) l =
    ⊎_elim
    (λ (h : e.size < longest_of es).
    let (k, b, p) = reached es (nonempty es (omega arith)) in (suc k, omega arith, omega arith))
    (λ (h : longest_of es ≤ e.size). (0, omega arith, omega arith))
    (cases_lt e.size (longest_of es))
  where
    nonempty : (es : List OffsetSize) → 0 < longest_of es → 0 < length es
    nonempty [] h = absurd (let n : ⊥ = omega arith in n)
    nonempty (e ∷ es) h = omega arith

edge_is : (n : ℕ) (es : List OffsetSize) (k : ℕ) → k < length es → edge_at (varying n (sizes es)) k ≡ (get_or es k no_entry).size
edge_is n es k l = ap (λ (o : Option ℕ). unwrap_or o 0) (size_at es k l)

-- the longest of the entries is the longest edge of the axis
pub longest_is : (t : List OffsetSize) (n : ℕ) (d : Dimension) → LongestIn (axis_of t n d) (longest_in t d)
longest_is t n (Fixed s) = ((λ k l. le_refl s), (λ l. (0, l, refl)))
longest_is t n (Varying first number) = (
  (λ k l.
      let m : k < length (span t first number) = simp length-map at l in
      let e = edge_is n (span t first number) k m in
      let a = above (span t first number) k m in
      omega arith),
  (λ l.
      let m : 0 < length (span t first number) = simp length-map at l in
      let (k, b, p) = reached (span t first number) m in
      (k, (simp length-map b), (edge_is n (span t first number) k b ∙ p))),
)
