use Rattle.std.specs.Prelude.{◌≡◌, ℕ, ◌^◌, ◌<◌, ◌≤◌, cond, List, ◌++◌, map, length, take, drop, Ok, Err, Result, nat_le, nat_lt, slice_index_or}
use Rattle.edges.specs.declared.fault.Cause.TheVariants.{Zero, Overflow, Short}
use Rattle.edges.specs.declared.fault.Fault.{Fault}
use Rattle.edges.specs.declared.table.Run.{Run}
use Rattle.edges.specs.declared.table.OffsetSize.{OffsetSize}
use Rattle.edges.specs.Refusals.{edges_refusal}
use Rattle.edges.specs.Runs.{run_edge, run_count, zero_in, zero_in_some, has_zero, expand, total, offsets, runs_of}

-- A call with a place to write into: it answers how many entries it wrote.
abbrev pub counted : {A : Type 0} → Result (List A) Fault → Result ℕ Fault
counted (Ok xs) = Ok (length xs)
counted (Err f) = Err f

-- What the place then holds: the entries, and past them what it held before; refused, what it held before.
abbrev pub placed : {A : Type 0} → Result (List A) Fault → List A → List A
placed (Ok xs) before = xs ++ drop (length xs) before
placed (Err f) before = before

-- The edge and the count of a run.
abbrev pub parts_answer : Run → Result (ℕ × ℕ) Fault
parts_answer r = cond (zero_in r) (Err (edges_refusal Zero)) (Ok (run_edge r, run_count r))

-- the answer for the edges, if no 0 and no sum above 2^64 - 1 stands against it
abbrev pub unless_refused : {A : Type 0} → List Run → Result A Fault → Result A Fault
unless_refused rs a =
    cond (zero_in_some rs) (Err (edges_refusal Zero)) (cond (nat_lt (total (expand rs)) (2 ^ 64)) a (Err (edges_refusal Overflow)))

unfoldable pub number_answer : List Run → Result ℕ Fault
number_answer rs = unless_refused rs (Ok (length (expand rs)))

-- What `lay` answers, with room for so many entries.
unfoldable pub lay_answer : List Run → ℕ → Result (List OffsetSize) Fault
lay_answer rs room =
    unless_refused rs (cond (nat_le (length (expand rs)) room) (Ok (offsets 0 (expand rs))) (Err (edges_refusal Short)))

abbrev pub no_entry : OffsetSize
no_entry = record { offset = 0; size = 0 }

-- The sizes laid are the edges, and each offset is the sum of the sizes before it.
abbrev pub Laid : List Run → Result ℕ Fault → List OffsetSize → Type 0
Laid rs (Ok n) t =
    (map (λ e. e.size) (take n t) ≡ expand rs)
    × ((k : ℕ) → k < n → (slice_index_or t k no_entry).offset ≡ total (take k (expand rs)))
Laid rs (Err f) t = Unit {0}

unfoldable pub runs_answer : List ℕ → Result ℕ Fault
runs_answer es = cond (has_zero es) (Err (edges_refusal Zero)) (Ok (length (runs_of es)))

-- What `compress` answers, with room for so many runs.
unfoldable pub compress_answer : List ℕ → ℕ → Result (List Run) Fault
compress_answer es room =
    cond (has_zero es) (Err (edges_refusal Zero)) (cond (nat_le (length (runs_of es)) room) (Ok (runs_of es)) (Err (edges_refusal Short)))

-- The runs expand to the edges, and no run list that does is shorter.
abbrev pub Shortest : List ℕ → Result ℕ Fault → List Run → Type 0
Shortest es (Ok n) p = (expand (take n p) ≡ es) × ((rs : List Run) → expand rs ≡ es → n ≤ length rs)
Shortest es (Err f) p = Unit {0}
