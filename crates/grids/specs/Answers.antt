use Rattle.std.specs.Prelude.{ℕ, zero, suc, ◌+◌, ◌-◌, ◌^◌, Bool, true, false, cond, ◌&&◌, ◌||◌, List, [], ◌∷◌, ◌++◌, length, replicate, is_some, Some, None, Ok, Err, Option, ◌==◌, nat_lt, slice_index}
use Rattle.std.specs.List.{slice_get}
use Rattle.edges.specs.declared.length.NonZeroU64.{NonZeroU64}
use Rattle.edges.specs.declared.fault.Cause.{Cause}
use Rattle.edges.specs.declared.fault.Cause.TheVariants.{Overflow}
use Rattle.axes.specs.Axes.{Axis, origin, chunk_of}
use Rattle.grids.specs.Places.{Answer, refused_at, sized}
use Rattle.grids.specs.Making.{first_fault, unless}

-- An edge as a number.
abbrev pub lengths : Option NonZeroU64 → Option ℕ
lengths None = None
lengths (Some e) = Some e.number

-- What a question of axis a answers: nothing where the grid lacks the axis.
abbrev pub of_axis : {B : Type 0} → (Axis → Option B) → Option Axis → Option B
of_axis f None = None
of_axis f (Some x) = f x

abbrev pub asked : {B : Type 0} → List Axis → ℕ → (Axis → Option B) → Option B
asked xs a f = of_axis f (slice_get xs a)

-- a number within 64 bits, else refusal 5 at axis a
abbrev pub within : ℕ → ℕ → Answer ℕ
within a o = cond (nat_lt o (2 ^ 64)) (Ok (Some o)) (Err (refused_at Overflow a))

-- what stands at the edge of a chunk, where the chunk has one
abbrev pub at_edge : ℕ → (ℕ → ℕ) → Option ℕ → Answer ℕ
at_edge a f None = Ok None
at_edge a f (Some e) = within a (f e)

abbrev pub origin_at : ℕ → ℕ → Axis → Answer ℕ
origin_at a k x = at_edge a (λ e. origin x k) (x.edge k)

abbrev pub end_at : ℕ → ℕ → Axis → Answer ℕ
end_at a k x = at_edge a (λ e. origin x k + e) (x.edge k)

abbrev pub on_axis : (Axis → Answer ℕ) → Option Axis → Answer ℕ
on_axis f None = Ok None
on_axis f (Some x) = f x

-- The origin of chunk k on axis a, and its end, origin + edge.
abbrev pub origin_answer : List Axis → ℕ → ℕ → Answer ℕ
origin_answer xs a k = on_axis (origin_at a k) (slice_get xs a)

abbrev pub end_answer : List Axis → ℕ → ℕ → Answer ℕ
end_answer xs a k = on_axis (end_at a k) (slice_get xs a)

-- One answer after others: absence comes first, then the first refusal.
abbrev pub push : Answer (List ℕ) → Answer ℕ → Answer (List ℕ)
push (Ok None) y = Ok None
push (Ok (Some xs)) (Ok None) = Ok None
push (Ok (Some xs)) (Ok (Some v)) = Ok (Some (xs ++ v ∷ []))
push (Ok (Some xs)) (Err f) = Err f
push (Err e) (Ok None) = Ok None
push (Err e) (Ok (Some v)) = Err e
push (Err e) (Err f) = Err e

-- The answers of axes 0 .. n - 1 as one: absent where one is absent, else the first refusal, else the list.
unfoldable pub gathered : (ℕ → Answer ℕ) → ℕ → Answer (List ℕ)
gathered f zero = Ok (Some [])
gathered f (suc n) = push (gathered f n) (f n)

-- What axis a answers: its size, its number of chunks, the edge of chunk k, the chunk of index i, and the place of i in it.
abbrev pub size_answer : List Axis → ℕ → Answer ℕ
size_answer xs a = Ok (asked xs a (λ x. Some x.size))

abbrev pub count_answer : List Axis → ℕ → Answer ℕ
count_answer xs a = Ok (asked xs a (λ x. Some x.count))

abbrev pub edge_answer : List Axis → ℕ → ℕ → Answer ℕ
edge_answer xs a k = Ok (asked xs a (λ x. x.edge k))

abbrev pub chunk_answer : List Axis → ℕ → ℕ → Answer ℕ
chunk_answer xs a i = Ok (asked xs a (λ x. chunk_of x i))

abbrev pub less_origin : Axis → ℕ → Option ℕ → Option ℕ
less_origin x i None = None
less_origin x i (Some k) = Some (i - origin x k)

-- the index less the origin of its chunk
abbrev pub element_of : Axis → ℕ → Option ℕ
element_of x i = less_origin x i (chunk_of x i)

abbrev pub element_answer : List Axis → ℕ → ℕ → Answer ℕ
element_answer xs a i = Ok (asked xs a (λ x. element_of x i))

-- What the list questions answer, into a place of n entries.
abbrev pub array_shape_answer : List Axis → ℕ → Answer (List ℕ)
array_shape_answer xs n = sized (n ∷ []) (length xs) (gathered (size_answer xs) (length xs))

abbrev pub grid_shape_answer : List Axis → ℕ → Answer (List ℕ)
grid_shape_answer xs n = sized (n ∷ []) (length xs) (gathered (count_answer xs) (length xs))

-- for a list of numbers, one for each axis
abbrev pub each_answer : (List Axis → ℕ → ℕ → Answer ℕ) → List Axis → List ℕ → Answer (List ℕ)
each_answer f xs ks = gathered (λ a. f xs a (slice_index ks a)) (length xs)

abbrev pub list_answer : (List Axis → ℕ → ℕ → Answer ℕ) → List Axis → List ℕ → ℕ → Answer (List ℕ)
list_answer f xs ks n = sized (length ks ∷ n ∷ []) (length xs) (each_answer f xs ks)

abbrev pub chunk_shape_answer : List Axis → List ℕ → ℕ → Answer (List ℕ)
chunk_shape_answer = list_answer edge_answer

abbrev pub chunk_origin_answer : List Axis → List ℕ → ℕ → Answer (List ℕ)
chunk_origin_answer = list_answer origin_answer

abbrev pub chunk_indices_answer : List Axis → List ℕ → ℕ → Answer (List ℕ)
chunk_indices_answer = list_answer chunk_answer

abbrev pub chunk_element_indices_answer : List Axis → List ℕ → ℕ → Answer (List ℕ)
chunk_element_indices_answer = list_answer element_answer

-- Whether an index is in bounds: a chunk contains it, and the size is 0 or it is below the size.
abbrev pub axis_inbounds : ℕ → Option Axis → Bool
axis_inbounds i None = false
axis_inbounds i (Some x) = is_some (chunk_of x i) && (x.size == 0 || nat_lt i x.size)

unfoldable pub all_below : ℕ → (ℕ → Bool) → Bool
all_below zero t = true
all_below (suc n) t = all_below n t && t n

abbrev pub inbounds_at : List Axis → List ℕ → ℕ → Bool
inbounds_at xs is a = axis_inbounds (slice_index is a) (slice_get xs a)

abbrev pub inbounds : List Axis → List ℕ → Bool
inbounds xs is = length is == length xs && all_below (length xs) (inbounds_at xs is)

-- Two answers as one: the absence or the refusal of the second comes first.
abbrev pub both : Answer (List ℕ) → Answer (List ℕ) → Answer (List ℕ × List ℕ)
both r (Err f) = Err f
both r (Ok None) = Ok None
both (Err f) (Ok (Some ys)) = Err f
both (Ok None) (Ok (Some ys)) = Ok None
both (Ok (Some xs)) (Ok (Some ys)) = Ok (Some (xs, ys))

-- What `subset` answers: origins and ends. An end exceeds 64 bits wherever its origin does, so the ends name the first axis at fault.
abbrev pub subset_answer : List Axis → List ℕ → ℕ → ℕ → Answer (List ℕ × List ℕ)
subset_answer xs ks m n =
    sized (length ks ∷ m ∷ n ∷ []) (length xs) (both (each_answer origin_answer xs ks) (each_answer end_answer xs ks))

-- A region is a start list and a shape list.
abbrev pub has_zero : List ℕ → Bool
has_zero [] = false
has_zero (n ∷ ns) = n == 0 || has_zero ns

-- refusal 5 where start + shape exceeds 64 bits
abbrev pub beyond : List ℕ → List ℕ → ℕ → Option Cause
beyond start shape a = cond (nat_lt (slice_index start a + slice_index shape a) (2 ^ 64)) None (Some Overflow)

-- the number of chunks from one to another
abbrev pub chunks_between : Option ℕ → Option ℕ → Option ℕ
chunks_between None k = None
chunks_between (Some j) None = None
chunks_between (Some j) (Some k) = Some (k - j + 1)

-- the number of chunks from the first index to the last, of n indices from i on
abbrev pub number_answer : List Axis → ℕ → ℕ → ℕ → Answer ℕ
number_answer xs a i n = Ok (asked xs a (λ x. chunks_between (chunk_of x i) (chunk_of x (i + n - 1))))

-- What `chunks_in_array_subset` answers: the first chunk and the number of chunks on each axis.
abbrev pub chunks_in_answer : List Axis → List ℕ → List ℕ → ℕ → ℕ → Answer (List ℕ × List ℕ)
chunks_in_answer xs start shape m n =
    sized (length start ∷ length shape ∷ m ∷ n ∷ []) (length xs)
    (cond (has_zero shape) (Ok (Some (replicate (length xs) 0, replicate (length xs) 0)))
    (unless (first_fault (beyond start shape) (length xs))
    (both (each_answer chunk_answer xs start) (gathered (λ a. number_answer xs a (slice_index start a) (slice_index shape a)) (length xs)))))
