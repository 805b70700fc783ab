use Rattle.std.specs.Prelude.{ℕ, Bool, false, cond, not, ◌&&◌, List, length, map, position, Some, None, Option, nat_eq, nat_lt, slice_index_or}
use Rattle.std.specs.List.{find, range_with_len}
use Rattle.std.specs.Option.{option_eq}
use Rattle.memory_stores.specs.declared.directory.Entry.{Entry}

-- An entry that is not used.
abbrev pub no_entry : Entry
no_entry = record { chunk = None }

abbrev pub entry : List Entry → ℕ → Entry
entry es i = slice_index_or es i no_entry

-- The entry is used for chunk k.
abbrev pub names : ℕ → Entry → Bool
names k e = option_eq nat_eq e.chunk (Some k)

-- The lowest slot that is used for chunk k, if there is one.
abbrev pub slot_of : List Entry → ℕ → Option ℕ
slot_of es k = position (names k) es

-- Slot i, used for this chunk or for none, holds it: the chunk is below the limit, and no lower slot is used for it.
abbrev pub holds : List Entry → ℕ → ℕ → Option ℕ → Bool
holds es limit i (Some k) = nat_lt k limit && option_eq nat_eq (slot_of es k) (Some i)
holds es limit i None = false

abbrev pub busy : List Entry → ℕ → ℕ → Bool
busy es limit i = holds es limit i (entry es i).chunk

-- The lowest slot that holds no chunk, if there is one.
abbrev pub vacant : List Entry → ℕ → Option ℕ
vacant es limit = find (λ i. not (busy es limit i)) (range_with_len 0 (length es))

-- No entry is used for chunk k any more.
abbrev pub let_go : ℕ → Entry → Entry
let_go k e = cond (names k e) no_entry e

abbrev pub released : ℕ → List Entry → List Entry
released k es = map (let_go k) es
