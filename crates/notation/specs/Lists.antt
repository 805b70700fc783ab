use Rattle.std.specs.Prelude.{◌≡◌, ℕ, cond, List, [], ◌∷◌, Some, None, Ok, Err, codes, Option, Result}
use Rattle.std.specs.Option.{option_map}
use Rattle.std.specs.List.{join_with_byte}
use Rattle.std.specs.Str.{bytes_eq}
use Rattle.edges.specs.declared.table.Run.{Run}
use Rattle.edges.specs.declared.table.Run.TheVariants.{Single, Repeated}
use Rattle.notation.specs.declared.error.ListError.{ListError}
use Rattle.notation.specs.declared.error.ListError.TheVariants.{NotAList, OutOfMemory}
use Rattle.notation.specs.Texts.{before, after, parts_at, number_in}

abbrev pub onto : {A : Type 0} → Option A → Option (List A) → Option (List A)
onto None xs = None
onto (Some x) None = None
onto (Some x) (Some xs) = Some (x ∷ xs)

-- What each text stands for, if each stands for something.
unfoldable pub each_in : {A : Type 0} → (List ℕ → Option A) → List (List ℕ) → Option (List A)
each_in read [] = Some []
each_in read (t ∷ ts) = onto (read t) (each_in read ts)

-- The list that a text writes: `-` for none, else its items between commas.
unfoldable pub list_in : {A : Type 0} → (List ℕ → Option A) → List ℕ → Option (List A)
list_in read t = cond (bytes_eq t (codes "-")) (Some []) (each_in read (parts_at 44 t))

abbrev pub repeated_in : Option ℕ → Option ℕ → Option Run
repeated_in None n = None
repeated_in (Some e) None = None
repeated_in (Some e) (Some n) = Some (Repeated e n)

abbrev pub run_with : List ℕ → Option (List ℕ) → Option Run
run_with t None = option_map Single (number_in t)
run_with t (Some n) = repeated_in (number_in (before 120 t)) (number_in n)

-- The run that a text writes: `3`, or `3x2` for edge 3, twice.
unfoldable pub run_in : List ℕ → Option Run
run_in t = run_with t (after 120 t)

-- What is written of a list: `-` for none, else the texts of its items with a mark between each two.
unfoldable pub list_text : ℕ → List (List ℕ) → List ℕ
list_text m [] = codes "-"
list_text m (t ∷ ts) = join_with_byte m (t ∷ ts)

-- What a reading answers of what a text writes: the value, or that there is none; want of memory says nothing.
abbrev pub Reads : {A B : Type 0} → (A → B) → Result A ListError → Option B → Type 0
Reads held (Ok x) o = Some (held x) ≡ o
Reads held (Err NotAList) o = None ≡ o
Reads held (Err (OutOfMemory e)) o = Unit {0}
