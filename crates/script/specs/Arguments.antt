use Rattle.std.specs.Prelude.{ℕ, cond, List, [], ◌∷◌, Some, None, Option, nat_lt}
use Rattle.notation.specs.Texts.{number_in, field_in}
use Rattle.notation.specs.Lists.{list_in}
use Rattle.script.specs.Replies.{Reply, not_understood, room_too_large}

-- An argument that cannot be read is not understood.
abbrev pub with_read : {A : Type 0} → Option A → (A → Reply) → Reply
with_read None k = not_understood
with_read (Some x) k = k x

-- The arguments, where there are so many of them.
abbrev pub none_of : List (List ℕ) → Option (Unit {0})
none_of [] = Some tt
none_of (a ∷ more) = None

abbrev pub one_of : List (List ℕ) → Option (List ℕ)
one_of [] = None
one_of (a ∷ []) = Some a
one_of (a ∷ b ∷ more) = None

abbrev pub two_of : List (List ℕ) → Option (List ℕ × List ℕ)
two_of [] = None
two_of (a ∷ []) = None
two_of (a ∷ b ∷ []) = Some (a, b)
two_of (a ∷ b ∷ c ∷ more) = None

abbrev pub three_of : List (List ℕ) → Option (List ℕ × List ℕ × List ℕ)
three_of [] = None
three_of (a ∷ []) = None
three_of (a ∷ b ∷ []) = None
three_of (a ∷ b ∷ c ∷ []) = Some (a, b, c)
three_of (a ∷ b ∷ c ∷ d ∷ more) = None

-- A number and a list of numbers in a field, as `limit=9` and `start=1,1`.
abbrev pub number_of : Option (List ℕ) → Option ℕ
number_of None = None
number_of (Some t) = number_in t

abbrev pub numbers_of : Option (List ℕ) → Option (List ℕ)
numbers_of None = None
numbers_of (Some t) = list_in number_in t

abbrev pub number_field : List ℕ → List ℕ → Option ℕ
number_field name word = number_of (field_in name word)

abbrev pub numbers_field : List ℕ → List ℕ → Option (List ℕ)
numbers_field name word = numbers_of (field_in name word)

abbrev pub if_read : {A B : Type 0} → Option A → (A → Option B) → Option B
if_read None k = None
if_read (Some x) k = k x

-- The list of numbers that is the only argument.
abbrev pub only_numbers : List (List ℕ) → Option (List ℕ)
only_numbers args = if_read (one_of args) (list_in number_in)

-- A room above 65536 is not given.
abbrev pub with_room : (ℕ → Reply) → ℕ → Reply
with_room k n = cond (nat_lt 65536 n) room_too_large (k n)
