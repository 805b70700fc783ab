use Rattle.std.specs.Prelude.{ℕ, List, [], ◌∷◌, Some, codes, Option}
use Rattle.std.proofs.Math.Utf8.{encode}
use Rattle.std.specs.Fmt.{option_append}

-- What is written of more items of a list: a mark and the item, for each.
unfoldable pub more_shown : {A : Type 0} → (A → Option (List ℕ)) → ℕ → List A → Option (List ℕ)
more_shown shown m [] = Some []
more_shown shown m (x ∷ xs) = option_append (option_append (Some (encode m)) (shown x)) (more_shown shown m xs)

-- What is written of a list: `-` for none, else its items with a mark between each two.
unfoldable pub list_shown : {A : Type 0} → (A → Option (List ℕ)) → ℕ → List A → Option (List ℕ)
list_shown shown m [] = Some (codes "-")
list_shown shown m (x ∷ xs) = option_append (shown x) (more_shown shown m xs)
