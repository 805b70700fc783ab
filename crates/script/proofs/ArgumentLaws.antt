use Rattle.std.proofs.Common.{◌≡◌, ℕ, List, [], ◌∷◌, length, get_or, Some, refl, arith, Bor}
use Rattle.notation.specs.Texts.{texts}
use Rattle.notation.proofs.WordLaws.{no_text}
use Rattle.script.specs.Arguments.{two_of, three_of}

-- arguments, by how many there are
abbrev at : List (Bor (List ℕ)) → ℕ → List ℕ
at ws i = (get_or ws i no_text).now

pub two_there : (ws : List (Bor (List ℕ))) → length ws ≡ 2 → Some (at ws 0, at ws 1) ≡ two_of (texts ws)
two_there [] e = absurd (omega arith)
two_there (a ∷ []) e = absurd (omega arith)
two_there (a ∷ b ∷ []) e = refl
two_there (a ∷ b ∷ c ∷ ws) e = absurd (omega arith)

pub three_there : (ws : List (Bor (List ℕ))) → length ws ≡ 3 → Some (at ws 0, at ws 1, at ws 2) ≡ three_of (texts ws)
three_there [] e = absurd (omega arith)
three_there (a ∷ []) e = absurd (omega arith)
three_there (a ∷ b ∷ []) e = absurd (omega arith)
three_there (a ∷ b ∷ c ∷ []) e = refl
three_there (a ∷ b ∷ c ∷ d ∷ ws) e = absurd (omega arith)
