use Rattle.std.specs.Prelude.{◌≡◌, ℕ, zero, suc, ◌+◌, ◌^◌, ◌<◌, ◌≤◌, Bool, true, false, cond, ◌&&◌, List, [], ◌∷◌, length, take, is_some, Some, None, Option, ◌==◌, nat_le, nat_lt, slice_index, slice_index_or, refl}
use Rattle.std.proofs.Common.{ap, ◌∙◌, zero-add, arith}
use Rattle.std.specs.List.{slice_get}
use Rattle.std.specs.Option.{unwrap_or}
use Rattle.std.proofs.lemmas.Bool.{and_parts, or_parts, eqb-true, eqb-false, ltb-true, leb-true, both_ways}
use Rattle.std.proofs.lemmas.Option.{slice_get-get_or, slice_get_past}
use Rattle.std.proofs.lemmas.List.{length-map, length-take, length-drop, get_or-map, take_all}
use Rattle.edges.specs.declared.table.OffsetSize.{OffsetSize}
use Rattle.edges.specs.declared.fault.Cause.TheVariants.{Zero, Sum, Overflow, Short}
use Rattle.edges.specs.Answers.{no_entry}
use Rattle.edges.specs.Runs.{total, has_zero}
use Rattle.axes.specs.Axes.{edge_at, origin, LawfulAxis, varying}
use Rattle.axes.specs.AxisLaws.{fixed_lawful, nth_below}
use Rattle.axes.specs.VaryingLaws.{varying_lawful}
use Rattle.table_grids.specs.declared.dimension.Dimension.{Dimension}
use Rattle.table_grids.specs.declared.dimension.Dimension.TheVariants.{Fixed, Varying}
use Rattle.table_grids.specs.Spans.{span, sizes, axis_of, fixed_edge, OffsetsAreSums, SizesPositive}
use Rattle.table_grids.specs.Causes.{laid, exactly, at_least, Reaches, entries_cause, axis_cause}

-- Entries that an axis of size n can have: laid one after another, with edges of at least 1, to an end that has 64 bits and reaches the size.
pub record ValidSpan (n : ℕ) (es : List OffsetSize) : Type 0 where
  pub offsets : OffsetsAreSums es
  pub positive : SizesPositive es
  pub end_fits : total (sizes es) < 2 ^ 64
  pub reaches : n ≤ total (sizes es)

-- A dimension that an axis of size n can have.
abbrev pub ValidAxis : List OffsetSize → ℕ → Dimension → Type 0
ValidAxis t n (Fixed s) = 1 ≤ s
ValidAxis t n (Varying first number) = (first + number ≤ length t) × ValidSpan n (span t first number)

-- a span within the table has as many entries as it says
pub span-length : (t : List OffsetSize) (first number : ℕ) → first + number ≤ length t → length (sizes (span t first number)) ≡ number
span-length t first number h = simp (length-map, length-take, length-drop) (omega arith)

-- the size in entry k is the edge of chunk k, and past the entries there is none
pub size_at : (es : List OffsetSize) (k : ℕ) → k < length es → slice_get (sizes es) k ≡ Some (slice_index_or es k no_entry).size
size_at es k l =
    slice_get-get_or (sizes es) k 0 (rw length-map l) ∙ ap Some (get_or-map (λ (e : OffsetSize). e.size) es k no_entry 0 l)

pub size_past : (es : List OffsetSize) (k : ℕ) → length es ≤ k → slice_get (sizes es) k ≡ None
size_past es k l = slice_get_past (sizes es) k (rw length-map l)

total_more : (xs : List ℕ) (k : ℕ) → k < length xs → total (take (suc k) xs) ≡ total (take k xs) + slice_index xs k
unfolding total
total_more [] k l = absurd (let n : ⊥ = omega arith in n)
total_more (x ∷ xs) zero l = omega arith
total_more (x ∷ xs) (suc k) l = let r = total_more xs k (omega arith) in omega arith

-- the origin of a chunk is the sum of the edges before it
pub origin_sum : (n : ℕ) (xs : List ℕ) (k : ℕ) → k ≤ length xs → origin (varying n xs) k ≡ total (take k xs)
unfolding origin total
origin_sum n xs zero l = refl
origin_sum n xs (suc k) l =
    let r = origin_sum n xs k (omega arith) in
    let t = total_more xs k l in
    let v : edge_at (varying n xs) k ≡ slice_index_or xs k 0 = ap (λ (o : Option ℕ). unwrap_or o 0) (slice_get-get_or xs k 0 l) in
    omega arith

pub end_sum : (n : ℕ) (xs : List ℕ) → origin (varying n xs) (length xs) ≡ total xs
end_sum n xs = origin_sum n xs (length xs) (omega arith) ∙ ap total (take_all (length xs) xs (omega arith))

-- a valid span gives a lawful axis
pub span_lawful : (n : ℕ) (es : List OffsetSize) → n < 2 ^ 64 → ValidSpan n es → LawfulAxis (varying n (sizes es))
span_lawful n es fits v =
    let end = end_sum n (sizes es) in
    varying_lawful n (sizes es) fits
    (λ k x h.
    let b = nth_below (sizes es) k x h in
    let l : k < length es = simp length-map at b in
    let p = size_at es k l in
    let q = v.positive k l in
    let z : (slice_index_or es k no_entry).size ≡ x = cc in
    omega arith)
    (let f = v.end_fits in omega arith)
    (let f = v.reaches in omega arith)

pub axis_lawful : (t : List OffsetSize) (n : ℕ) (d : Dimension) → n < 2 ^ 64 → fixed_edge d < 2 ^ 64 → ValidAxis t n d → LawfulAxis (axis_of t n d)
axis_lawful t n (Fixed s) fits narrow v = fixed_lawful n s v fits narrow
axis_lawful t n (Varying first number) fits narrow v = span_lawful n (span t first number) fits v.1

laid_offset : (o : ℕ) (es : List OffsetSize) (k : ℕ) → laid o es ≡ true → k < length es → (slice_index_or es k no_entry).offset ≡ o + total (take k (sizes es))
unfolding laid total
laid_offset o [] k h l = absurd (let n : ⊥ = omega arith in n)
laid_offset o (e ∷ es) zero h l =
    let q = eqb-true e.offset o (and_parts (e.offset == o) (laid (o + e.size) es) h).0 in omega arith
laid_offset o (e ∷ es) (suc k) h l =
    let r = laid_offset (o + e.size) es k (and_parts (e.offset == o) (laid (o + e.size) es) h).1 (omega arith) in omega arith

not_zero : (es : List OffsetSize) (k : ℕ) → has_zero (sizes es) ≡ false → k < length es → 1 ≤ (slice_index_or es k no_entry).size
unfolding has_zero
not_zero [] k h l = absurd (let n : ⊥ = omega arith in n)
not_zero (e ∷ es) zero h l =
    let q = eqb-false e.size 0 (or_parts (e.size == 0) (has_zero (sizes es)) h).0 in omega (arith, q)
not_zero (e ∷ es) (suc k) h l = not_zero es k (or_parts (e.size == 0) (has_zero (sizes es)) h).1 (omega arith)

-- either rule gives at least the size
pub exactly_reaches : Reaches exactly
exactly_reaches n m h = let e = eqb-true m n h in omega arith

pub at_least_reaches : Reaches at_least
at_least_reaches n m h = leb-true n m h

-- where there is no cause, the entries are valid
pub valid_span : (keeps : ℕ → ℕ → Bool) → Reaches keeps → (n : ℕ) (es : List OffsetSize) → is_some (entries_cause keeps n es) ≡ false → ValidSpan n es
valid_span keeps reaches n es h =
    go (laid 0 es) (has_zero (sizes es)) (nat_lt (total (sizes es)) (2 ^ 64)) (nat_lt 0 (length es) && keeps n (total (sizes es))) refl refl refl refl h
  where
    go : (a b c d : Bool) → laid 0 es ≡ a → has_zero (sizes es) ≡ b → nat_lt (total (sizes es)) (2 ^ 64) ≡ c
        → (nat_lt 0 (length es) && keeps n (total (sizes es))) ≡ d
        → is_some (cond a (cond b (Some Zero) (cond c (cond d None (Some Sum)) (Some Overflow))) (Some Short)) ≡ false → ValidSpan n es
    go false b c d p q r s h = absurd (both_ways true h refl)
    go true true c d p q r s h = absurd (both_ways true h refl)
    go true false false d p q r s h = absurd (both_ways true h refl)
    go true false true false p q r s h = absurd (both_ways true h refl)
    go true false true true p q r s h = record {
      offsets = λ k l. laid_offset 0 es k p l ∙ zero-add _;
      positive = λ k l. not_zero es k q l;
      end_fits = ltb-true (total (sizes es)) (2 ^ 64) r;
      reaches = reaches n (total (sizes es)) (and_parts (nat_lt 0 (length es)) (keeps n (total (sizes es))) s).1;
    }

pub valid_axis : (keeps : ℕ → ℕ → Bool) → Reaches keeps → (t : List OffsetSize) (n : ℕ) (d : Dimension) → is_some (axis_cause keeps t n d) ≡ false → ValidAxis t n d
valid_axis keeps reaches t n (Fixed s) h = go (s == 0) refl h
  where
    go : (b : Bool) → (s == 0) ≡ b → is_some (cond b (Some Zero) None) ≡ false → 1 ≤ s
    go true p q = absurd (both_ways true q refl)
    go false p q = let e = eqb-false s 0 p in omega (arith, e)
valid_axis keeps reaches t n (Varying first number) h = go (nat_le (first + number) (length t)) refl h
  where
    go : (b : Bool) → nat_le (first + number) (length t) ≡ b → is_some (cond b (entries_cause keeps n (span t first number)) (Some Short)) ≡ false
        → (first + number ≤ length t) × ValidSpan n (span t first number)
    go true p q = (leb-true (first + number) (length t) p, valid_span keeps reaches n (span t first number) q)
    go false p q = absurd (both_ways true q refl)
