use Rattle.std.proofs.Common.{◌≡◌, ℕ, zero, suc, ◌/◌, ◌^◌, ◌<◌, ◌≤◌, min, Bool, true, false, List, length, get_or, take, Some, None, Ok, Option, sym, refl, ap, ◌∙◌, ⊎_elim, subst, arith}
use Rattle.std.specs.Borrow.{Bor}
use Rattle.std.specs.List.{slice_get}
use Rattle.std.specs.Option.{option_copied}
use Rattle.std.specs.Slice.{IsItemAt}
use Rattle.std.proofs.lemmas.Bool.{cases_lt, ltb-true, ltb-false}
use Rattle.std.proofs.lemmas.List.{length-take, get_or-take}
use Rattle.std.proofs.lemmas.Option.{slice_get-get_or, slice_get_past, slice_get_read}
use Rattle.edges.specs.declared.table.OffsetSize.{OffsetSize}
use Rattle.edges.specs.Answers.{no_entry}
use Rattle.axes.specs.Axes.{Axis, axes_by, origin, chunk_of, last_below, reaches, fixed}
use Rattle.axes.specs.AxisLaws.{nth_below, length_from, origin_constant, chunk_fixed}
use Rattle.grids.specs.Answers.{of_axis, asked, at_edge, origin_at}
use Rattle.grids.proofs.Asked.{nth_here, nth_past, within_fits}
use Rattle.table_grids.specs.declared.dimension.Dimension.{Dimension}
use Rattle.table_grids.specs.declared.dimension.Dimension.TheVariants.{Fixed, Varying}
use Rattle.table_grids.specs.declared.span.Span.{Span}
use Rattle.table_grids.specs.Spans.{axis_of}
use Rattle.table_grids.specs.Views.{span_axis}
use Rattle.table_grids.specs.Causes.{Reaches, NoneRefused}
use Rattle.table_grids.specs.TableAxes.{axis_valid}
use Rattle.table_grids.proofs.Halving.{offset_is, origin_fits}
use Rattle.table_grids.specs.Valid.{ValidSpan, ValidAxis, size_at, size_past}

-- what a span knows of its entries
pub span_valid : (s : Span) → ValidSpan s.size s.entries.now
span_valid s = record { offsets = s.offsets; positive = s.positive; end_fits = s.end_fits; reaches = s.reaches }

-- where a chunk of a span begins, and a chunk past it
pub origin_there : (s : Span) (a k : ℕ) → k < length s.entries.now → origin_at a k (span_axis s) ≡ Ok (Some (get_or s.entries.now k no_entry).offset)
origin_there s a k l =
    let v = span_valid s in
    ap (at_edge a (λ _. origin (span_axis s) k)) (size_at s.entries.now k l)
    ∙ within_fits a _ (origin_fits s.size s.entries.now v k l)
    ∙ ap (λ (o : ℕ). Ok (Some o)) (sym (offset_is s.size s.entries.now v k l))

pub origin_past : (s : Span) (a k : ℕ) → length s.entries.now ≤ k → origin_at a k (span_axis s) ≡ Ok None
origin_past s a k l = ap (at_edge a (λ _. origin (span_axis s) k)) (size_past s.entries.now k l)

-- what `get` lends, copied
item_read : (xs : List ℕ) (i : ℕ) (r : Option (Bor ℕ)) → IsItemAt xs i r → option_copied r ≡ slice_get xs i
item_read xs i None h = sym (slice_get_past xs i (ltb-false i (length xs) (sym h.0)))
item_read xs i (Some x) h = sym (slice_get_read xs (length xs) i x.now refl (ltb-true i (length xs) (sym h.0)) h.1)

-- a front of numbers, read at a, is what axis a answers of which they are
pub read_axis : (f : ℕ → Axis) (q : Axis → ℕ) (xs : List ℕ) (number a : ℕ) → number ≤ length xs → ((k : ℕ) → k < number → get_or xs k 0 ≡ q (f k))
    → (r : Option (Bor ℕ)) → IsItemAt (take number xs) a r → option_copied r ≡ asked (axes_by number f) a (λ x. Some (q x))
read_axis f q xs number a long same r item =
    let n : length (take number xs) ≡ min number (length xs) = length-take number xs in
    item_read (take number xs) a r item
    ∙ ⊎_elim
    (λ (l : a < number).
    slice_get-get_or (take number xs) a 0 (omega arith)
    ∙ ap Some (get_or-take number xs a 0 l ∙ same a l) ∙ sym (ap (of_axis (λ x. Some (q x))) (nth_here number f a l)))
    (λ (l : number ≤ a). slice_get_past (take number xs) a (omega arith) ∙ sym (ap (of_axis (λ x. Some (q x))) (nth_past number f a l)))
    (cases_lt a number)

-- an axis that is there, with its dimension
pub described : (keeps : ℕ → ℕ → Bool) → Reaches keeps → (t : List OffsetSize) (number : ℕ) (ns : List ℕ) (ds : List Dimension) → NoneRefused keeps number t ns ds
    → (a : ℕ) → a < number → (d : Dimension) → get_or ds a (Fixed 0) ≡ d → ValidAxis t (get_or ns a 0) d
described keeps reaches t number ns ds none a l d e = subst (ValidAxis t (get_or ns a 0)) e (axis_valid keeps reaches t number ns ds none a l)

-- an axis that is there stands below the number of axes
pub axis_below : (f : ℕ → Axis) (number a : ℕ) (x : Axis) → Some x ≡ slice_get (axes_by number f) a → a < number
axis_below f number a x e =
    let l = nth_below (axes_by number f) a x (sym e) in
    let n : length (axes_by number f) ≡ number = length_from f 0 number in
    omega arith

pub axis_size : (t : List OffsetSize) (n : ℕ) (d : Dimension) → n ≡ (axis_of t n d).size
axis_size t n (Fixed s) = refl
axis_size t n (Varying first number) = refl

-- the chunk of an index does not depend on the size of an axis
last_same : (f g : ℕ → Bool) → ((k : ℕ) → f k ≡ g k) → (n : ℕ) → last_below n f ≡ last_below n g
unfolding last_below
last_same f g h zero = refl
last_same f g h (suc n) =
    ap (λ (b : Bool). elim b as (λ _. Option ℕ) [ true ↦ Some n | false ↦ last_below n f ]) (h n)
    ∙ ap (λ (o : Option ℕ). elim (g n) as (λ _. Option ℕ) [ true ↦ Some n | false ↦ o ]) (last_same f g h n)

chunk_same : (n m s i : ℕ) → chunk_of (fixed n s) i ≡ chunk_of (fixed m s) i
unfolding chunk_of
chunk_same n m s i =
    last_same _ _
    (λ k. ap (λ o. reaches (Some s) o i) (origin_constant (fixed n s) s (λ _. refl) k ∙ sym (origin_constant (fixed m s) s (λ _. refl) k))) (suc i)

pub chunk_equal : (n s i : ℕ) → 1 ≤ s → s < 2 ^ 64 → chunk_of (fixed n s) i ≡ Some (i / s)
chunk_equal n s i p fits = chunk_same n 0 s i ∙ chunk_fixed 0 s i p (omega arith) fits
