use Rattle.std.proofs.Common.{◌≡◌, ℕ, zero, suc, ◌+◌, ◌^◌, ◌<◌, ◌≤◌, Bool, true, false, cond, ◌&&◌, ◌||◌, ltb, leb, List, [], ◌∷◌, ◌++◌, length, get_or, take, replicate, Some, None, Ok, Err, Result, sym, refl, ap, ◌∙◌, subst, ap₂, arith, length-append}
use lib.Seq.{take-append_seam, drop-append_seam}
use Rattle.std.specs.List.{slice_get}
use Rattle.std.proofs.lemmas.Bool.{cond-true, cond-false, and_from, or_parts, eq-eqb, ne_eqb, ltb-true, lt-ltb, le-leb}
use Rattle.edges.specs.declared.table.OffsetSize.{OffsetSize}
use Rattle.edges.specs.declared.table.Run.{Run}
use Rattle.edges.specs.declared.fault.Cause.{Cause}
use Rattle.edges.specs.declared.fault.Cause.TheVariants.{Zero, Sum, Overflow, Short}
use Rattle.edges.specs.declared.fault.Fault.{Fault}
use Rattle.edges.specs.Refusals.{edges_refusal}
use Rattle.edges.specs.Runs.{run_edge, run_count, zero_in, zero_in_some, has_zero, expand, total, offsets}
use Rattle.edges.specs.Answers.{lay_answer}
use Rattle.edges.proofs.RunLaws.{edge_positive}
use Rattle.edges.proofs.LayLaws.{sizes_of_offsets}
use Rattle.axes.specs.Axes.{Axis, varying}
use Rattle.grids.specs.Places.{refused_at}
use Rattle.grids.specs.Making.{Makes}
use Rattle.grids.proofs.Asked.{nth_here}
use Rattle.grids.proofs.Never.{never}
use Rattle.table_grids.specs.declared.dimension.Dimension.{Dimension}
use Rattle.table_grids.specs.declared.dimension.Dimension.TheVariants.{Fixed}
use Rattle.table_grids.specs.Spans.{span, sizes, axis_of}
use Rattle.table_grids.specs.Causes.{laid, sum_cause, entries_cause, axis_cause, new_table}
use Rattle.table_grids.specs.LaidSpans.{LaidAt, LaidAccepted}
use Rattle.table_grids.proofs.NewLaws.{axis_at, refused_cause, made_axes}

-- what `lay` writes, and of which runs
lay_ok : (rs : List Run) (room : ℕ) (es : List OffsetSize) → lay_answer rs room ≡ Ok es
    → (zero_in_some rs ≡ false) × (total (expand rs) < 2 ^ 64) × (es ≡ offsets 0 (expand rs))
unfolding lay_answer
lay_ok rs room es h = go (zero_in_some rs) (ltb (total (expand rs)) (2 ^ 64)) (leb (length (expand rs)) room) refl refl h
  where
    go : (a b c : Bool) → zero_in_some rs ≡ a → ltb (total (expand rs)) (2 ^ 64) ≡ b
        → cond a (Err (edges_refusal Zero)) (cond b (cond c (Ok (offsets 0 (expand rs))) (Err (edges_refusal Short))) (Err (edges_refusal Overflow))) ≡ Ok es
        → (zero_in_some rs ≡ false) × (total (expand rs) < 2 ^ 64) × (es ≡ offsets 0 (expand rs))
    go true b c z t h = never (cc)
    go false false c z t h = never (cc)
    go false true false z t h = never (cc)
    go false true true z t h = (z, ltb-true _ _ t, (cc))

-- no run has an edge of 0, so none of their edges is 0
edges_positive : (rs : List Run) → zero_in_some rs ≡ false → has_zero (expand rs) ≡ false
unfolding zero_in_some expand has_zero
edges_positive [] h = refl
edges_positive (r ∷ rs) h =
    let p = or_parts (zero_in r) (zero_in_some rs) h in
    repeated (run_count r) (run_edge r) (expand rs) (edge_positive r p.0) (edges_positive rs p.1)
  where
    repeated : (n e : ℕ) (xs : List ℕ) → 1 ≤ e → has_zero xs ≡ false → has_zero (replicate n e ++ xs) ≡ false
    repeated zero e xs l h = h
    repeated (suc n) e xs l h = ap₂ ◌||◌ (ne_eqb e 0 (λ q. let n : ⊥ = omega arith in n)) (repeated n e xs l h)

laid-offsets : (o : ℕ) (xs : List ℕ) → laid o (offsets o xs) ≡ true
unfolding laid offsets
laid-offsets o [] = refl
laid-offsets o (x ∷ xs) = and_from _ _ (eq-eqb o o refl) (laid-offsets (o + x) xs)

-- the span of entries between a front and a rest
cut : (front es rest : List OffsetSize) → span (front ++ (es ++ rest)) (length front) (length es) ≡ es
cut front es rest = ap (take (length es)) (drop-append_seam front (es ++ rest)) ∙ take-append_seam es rest

-- entries with these edges, laid from 0, are refused for their sum alone
entries_laid : (keeps : ℕ → ℕ → Bool) (n : ℕ) (xs : List ℕ) → 1 ≤ length (offsets 0 xs) → has_zero xs ≡ false → total xs < 2 ^ 64
    → entries_cause keeps n (offsets 0 xs) ≡ cond (keeps n (total xs)) None (Some Sum)
entries_laid keeps n xs some positive fits =
    cond-true (laid 0 (offsets 0 xs)) _ _ (laid-offsets 0 xs)
    ∙ ap (λ ys. sum_cause keeps n (length (offsets 0 xs)) (has_zero ys) (total ys)) (sizes_of_offsets 0 xs)
    ∙ cond-false (has_zero xs) _ _ positive
    ∙ cond-true (ltb (total xs) (2 ^ 64)) _ _ (lt-ltb _ _ fits)
    ∙ ap (λ b. cond (b && keeps n (total xs)) None (Some Sum)) (lt-ltb 0 (length (offsets 0 xs)) some)

-- such a cause is 4, where the rule is broken
sum_broken : (b : Bool) (c : Cause) → cond b None (Some Sum) ≡ Some c → (c ≡ Sum) × (b ≡ false)
sum_broken true c h = never (cc)
sum_broken false c h = ((cc), refl)

module _ (keeps : ℕ → ℕ → Bool) (ds : List Dimension) (t : List OffsetSize) (a : ℕ) (rs : List Run) (p : LaidAt ds t a rs) where
  span_is : span t (length p.front) (length p.entries) ≡ offsets 0 (expand rs)
  span_is =
      ap (λ u. span u (length p.front) (length p.entries)) p.there ∙ cut p.front p.entries p.rest ∙ (lay_ok rs p.room p.entries p.laid).2

  within : length p.front + length p.entries ≤ length t
  within =
      let e = ap length p.there in
      let f = length-append p.front (p.entries ++ p.rest) in
      let g = length-append p.entries p.rest in
      omega arith

  laid_cause : (n : ℕ) → axis_cause keeps t n (get_or ds a (Fixed 0)) ≡ cond (keeps n (total (expand rs))) None (Some Sum)
  laid_cause n =
      let q = lay_ok rs p.room p.entries p.laid in
      let some : 1 ≤ length (offsets 0 (expand rs)) = subst (λ (es : List OffsetSize). 1 ≤ length es) q.2 p.nonempty in
      ap (axis_cause keeps t n) p.described
      ∙ cond-true (leb (length p.front + length p.entries) (length t)) _ _ (le-leb _ _ within)
      ∙ ap (entries_cause keeps n) span_is
      ∙ entries_laid keeps n (expand rs) some (edges_positive rs q.0) q.1

  laid_axis : (n : ℕ) → axis_of t n (get_or ds a (Fixed 0)) ≡ varying n (expand rs)
  laid_axis n =
      ap (axis_of t n) p.described
      ∙ ap (λ es. varying n (sizes es)) span_is
      ∙ ap (varying n) (sizes_of_offsets 0 (expand rs))

same_fault : (f g : Fault) → ◌≡◌ {A = Result (Unit {0}) Fault} (Err f) (Err g) → f ≡ g
same_fault f g h = cc

apart : {B : Type 0} (f : Fault) → ◌≡◌ {A = Result (Unit {0}) Fault} (Ok tt) (Err f) → B
apart f h = never (cc)

-- what `lay` wrote is accepted, but for its sum
pub laid_accepted : (keeps : ℕ → ℕ → Bool) (ns : List ℕ) (ds : List Dimension) (t : List OffsetSize) (xs : List Axis) (r : Result (Unit {0}) Fault)
    → Makes r xs (new_table keeps ns ds t) → LaidAccepted keeps ns ds t xs r
laid_accepted keeps ns ds t xs r made a rs l p = go (new_table keeps ns ds t) refl made
  where
    go : (d : Result (List Axis) Fault) → new_table keeps ns ds t ≡ d → Makes r xs d
        → ((c : Cause) → r ≡ Err (refused_at c a) → (c ≡ Sum) × (keeps (get_or ns a 0) (total (expand rs)) ≡ false))
        × (r ≡ Ok tt → a < length ns → slice_get xs a ≡ Some (varying (get_or ns a 0) (expand rs)))
    go (Err f) e (q, _) = (
      (λ c h.
          let same : f ≡ refused_at c a = same_fault f (refused_at c a) (sym q ∙ h) in
          sum_broken (keeps (get_or ns a 0) (total (expand rs))) c (sym (laid_cause keeps ds t a rs p (get_or ns a 0)) ∙ refused_cause keeps ns ds t a c l (e ∙ ap Err same))),
      (λ h. apart f (sym h ∙ q)),
    )
    go (Ok ys) e (q, s) = (
      (λ c h. apart (refused_at c a) (sym q ∙ h)),
      (λ h m.
          ap (λ zs. slice_get zs a) (s ∙ made_axes keeps ns ds t ys e)
          ∙ nth_here (length ns) (axis_at ns ds t) a m
          ∙ ap Some (laid_axis keeps ds t a rs p (get_or ns a 0))),
    )
