use Rattle.std.specs.Prelude.{ℕ, ◌^◌, cond, ◌&&◌, List, [], ◌∷◌, map, length, Some, None, Option, ◌==◌, nat_lt}
use Rattle.std.specs.Borrow.{Bor}
use Rattle.std.specs.Str.Parse.{digits_value}
use Rattle.std.specs.Str.{all_ascii_digits, bytes_eq}

-- The text before the first mark; all of it where there is none.
unfoldable pub before : ℕ → List ℕ → List ℕ
before m [] = []
before m (c ∷ cs) = cond (c == m) [] (c ∷ before m cs)

-- The text after the first mark, if there is one.
unfoldable pub after : ℕ → List ℕ → Option (List ℕ)
after m [] = None
after m (c ∷ cs) = cond (c == m) (Some cs) (after m cs)

abbrev pub onto_first : ℕ → List (List ℕ) → List (List ℕ)
onto_first c [] = (c ∷ []) ∷ []
onto_first c (p ∷ ps) = (c ∷ p) ∷ ps

-- The parts of a text between its marks: one more than there are marks.
unfoldable pub parts_at : ℕ → List ℕ → List (List ℕ)
parts_at m [] = [] ∷ []
parts_at m (c ∷ cs) = cond (c == m) ([] ∷ parts_at m cs) (onto_first c (parts_at m cs))

-- Those parts that are not empty.
unfoldable pub filled : List (List ℕ) → List (List ℕ)
filled [] = []
filled ([] ∷ ps) = filled ps
filled ((c ∷ p) ∷ ps) = (c ∷ p) ∷ filled ps

-- The words of a line, between spaces.
abbrev pub words_of : List ℕ → List (List ℕ)
words_of line = filled (parts_at 32 line)

-- What the references of a list point to.
abbrev pub texts : List (Bor (List ℕ)) → List (List ℕ)
texts = map (λ x. x.now)

-- The number that a text writes: decimal digits, at least one, and below 2^64.
unfoldable pub number_in : List ℕ → Option ℕ
number_in t = cond (all_ascii_digits t && (nat_lt 0 (length t) && nat_lt (digits_value 10 t) (2 ^ 64))) (Some (digits_value 10 t)) None

-- The value of a word such as `room=4`, if its name is this one.
unfoldable pub field_in : List ℕ → List ℕ → Option (List ℕ)
field_in name word = cond (bytes_eq (before 61 word) name) (after 61 word) None
