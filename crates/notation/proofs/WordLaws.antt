use Rattle.std.proofs.Common.{◌≡◌, ℕ, ◌^◌, ◌<◌, Bool, true, false, cond, ◌&&◌, not, eqb, filter, ltb, List, [], ◌∷◌, ◌++◌, length, get_or, Some, None, Ok, Err, Result, sym, refl, ap, ◌∙◌, subst, arith, Bor}
use Rattle.std.specs.Bool.{then_some}
use Rattle.std.specs.Option.{option_map}
use Rattle.std.specs.Result.{OkIff, result_ok}
use Rattle.std.specs.Str.Iter.{LacksByte}
use Rattle.std.specs.Str.Parse.{digits_value, ParsesUnsigned}
use Rattle.std.specs.Str.{all_ascii_digits, bytes_eq}
use Rattle.std.proofs.lemmas.Str.Parse.{IsNumeralModel, numerals_by_value, tells_all_ascii_digits, parse_plain}
use Rattle.std.proofs.lemmas.Bool.{cond-true, ne_eqb, lt-ltb, ltb-true, and_parts, and_from}
use Rattle.notation.specs.Texts.{before, after, filled, texts, number_in, field_in}
use Rattle.notation.proofs.TextLaws.{before_mark, after_mark, after_none}

abbrev pub no_text : Bor (List ℕ)
no_text = record { ref_ptr = (0, 0); now = [] }

-- the words among the parts
pub filled_is : (xs : List (Bor (List ℕ))) → texts (filter (λ x. not (eqb (length x.now) 0)) xs) ≡ filled (texts xs)
unfolding filled
filled_is [] = refl
filled_is (x ∷ xs) = go x.now refl (filled_is xs) where
  rest : List (Bor (List ℕ))
  rest = filter (λ y. not (eqb (length y.now) 0)) xs

  go : (t : List ℕ) → x.now ≡ t → texts rest ≡ filled (texts xs) → texts (cond (not (eqb (length t) 0)) (x ∷ rest) rest) ≡ filled (t ∷ texts xs)
  go [] e h = h
  go (c ∷ t) e h =
      ap texts (cond-true (not (eqb (length (c ∷ t)) 0)) (x ∷ rest) rest (ap not (ne_eqb (length (c ∷ t)) 0 (λ z. let n : ⊥ = omega arith in n))))
      ∙ ap (λ u. u ∷ texts rest) e ∙ ap (λ us. (c ∷ t) ∷ us) h

-- a number
pub own : IsNumeralModel (λ ds. all_ascii_digits ds ≡ true) (digits_value 10)
own = numerals_by_value (λ ds. all_ascii_digits ds ≡ true) tells_all_ascii_digits

pub number_plus : (t : List ℕ) → get_or t 0 0 ≡ 43 → None ≡ number_in t
unfolding number_in
number_plus [] e = refl
number_plus (c ∷ cs) e = subst (λ d. None ≡ number_in (d ∷ cs)) (sym e) refl

pub number_plain : {E : Type 0} (t : List ℕ) (r : Result ℕ E) → ParsesUnsigned 64 10 t r → (get_or t 0 0 ≡ 43 → ⊥) → result_ok r ≡ number_in t
unfolding number_in
number_plain {E} t r h n = go r (parse_plain own 64 t r h n) where
  go : (s : Result ℕ E) → OkIff s ((all_ascii_digits t ≡ true) × (0 < length t) × (digits_value 10 t < 2 ^ 64)) (digits_value 10 t) → result_ok s ≡ number_in t
  go (Ok x) c =
      ap Some c.1 ∙ sym (cond-true (all_ascii_digits t && (ltb 0 (length t) && ltb (digits_value 10 t) (2 ^ 64))) _ _
      (and_from _ _ c.0.0 (and_from _ _ (lt-ltb 0 (length t) c.0.1) (lt-ltb (digits_value 10 t) (2 ^ 64) c.0.2))))
  go (Err e) c = by (all_ascii_digits t && (ltb 0 (length t) && ltb (digits_value 10 t) (2 ^ 64))) refl where
    by : (b : Bool) → (all_ascii_digits t && (ltb 0 (length t) && ltb (digits_value 10 t) (2 ^ 64))) ≡ b → None ≡ cond b (Some (digits_value 10 t)) None
    by true q =
        let x = and_parts (all_ascii_digits t) (ltb 0 (length t) && ltb (digits_value 10 t) (2 ^ 64)) q in
        let y = and_parts (ltb 0 (length t)) (ltb (digits_value 10 t) (2 ^ 64)) x.1 in
        absurd (c (x.0, ltb-true 0 (length t) y.0, ltb-true (digits_value 10 t) (2 ^ 64) y.1))
    by false q = refl

-- a field
module _ (name word : List ℕ) where
  pub field_none : LacksByte 61 word → None ≡ field_in name word
  unfolding field_in
  field_none l = go (bytes_eq (before 61 word) name) where
    go : (b : Bool) → None ≡ cond b (after 61 word) None
    go true = sym (after_none 61 word l)
    go false = refl

  module _ (key rest : List ℕ) (e : word ≡ key ++ 61 ∷ rest) (l : LacksByte 61 key) where
    name_is : before 61 word ≡ key
    name_is = ap (before 61) e ∙ before_mark 61 key rest l

    pub field_is : (b : Bool) (value : Bor (List ℕ)) → b ≡ bytes_eq key name → value.now ≡ rest → option_map (λ x. x.now) (then_some b value) ≡ field_in name word
    unfolding field_in
    field_is b value q v =
        go b ∙ ap (λ a. cond b a None) (sym (ap (after 61) e ∙ after_mark 61 key rest l)) ∙ ap (λ a. cond a (after 61 word) None) (q ∙ ap (λ k. bytes_eq k name) (sym name_is)) where
          go : (a : Bool) → option_map (λ x. x.now) (then_some a value) ≡ cond a (Some rest) None
          go true = ap Some v
          go false = refl
