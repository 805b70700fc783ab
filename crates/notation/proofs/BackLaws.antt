use Rattle.std.proofs.Common.{◌≡◌, ℕ, zero, suc, ◌^◌, ◌<◌, ◌&&◌, ltb, List, [], ◌∷◌, ◌++◌, map, length, get_or, Some, codes, decimal, Option, sym, refl, ap, ◌∙◌, arith}
use Rattle.std.specs.Option.{option_map}
use Rattle.std.specs.Str.Iter.{LacksByte}
use Rattle.std.specs.List.{join_with_byte, AllByRecursion}
use Rattle.std.specs.Str.Parse.{digits_value}
use Rattle.std.specs.Int.{IsInRange}
use Rattle.std.specs.Str.{all_ascii_digits}
use Rattle.std.proofs.lemmas.Fmt.{decimal_nonempty, digits_decimal, digits_value-decimal}
use Rattle.std.proofs.lemmas.Str.Parse.{not_in_digits}
use Rattle.std.proofs.lemmas.Bool.{cond-true, and_from, lt-ltb}
use Rattle.edges.specs.Texts.{run_text}
use Rattle.edges.specs.declared.table.Run.{Run}
use Rattle.edges.specs.declared.table.Run.TheVariants.{Single, Repeated}
use Rattle.notation.specs.Texts.{number_in}
use Rattle.notation.specs.Lists.{onto, each_in, list_in, list_text, repeated_in, run_in}
use Rattle.notation.specs.Laws.{Small, SmallRun, WrittenIsRead}
use Rattle.notation.proofs.TextLaws.{lacks_tail, AllLack, parts_rejoined}
use Rattle.notation.proofs.WordLaws.{own}
use Rattle.notation.proofs.ListLaws.{run_plain, run_marked, list_items}
use Rattle.notation.proofs.ShownLaws.{tail_text, rejoined_tail}

lacks_append : (m : ℕ) (xs ys : List ℕ) → LacksByte m xs → LacksByte m ys → LacksByte m (xs ++ ys)
lacks_append m [] ys a b k h e = b k h e
lacks_append m (x ∷ xs) ys a b zero h e = a 0 (omega arith) e
lacks_append m (x ∷ xs) ys a b (suc k) h e = lacks_append m xs ys (lacks_tail m x xs a) b k (omega arith) e

-- a number
number_back : (n : ℕ) → Small n → number_in (decimal n) ≡ Some n
unfolding number_in
number_back n h =
    let v = digits_value-decimal own n h in
    cond-true (all_ascii_digits (decimal n) && (ltb 0 (length (decimal n)) && ltb (digits_value 10 (decimal n)) (2 ^ 64))) _ _
    (and_from _ _ (digits_decimal own n h) (and_from _ _ (lt-ltb 0 (length (decimal n)) (decimal_nonempty n h)) (lt-ltb (digits_value 10 (decimal n)) (2 ^ 64) (omega arith))))
    ∙ ap Some v

digits_lack : (m n : ℕ) → (IsInRange 48 57 m → ⊥) → Small n → LacksByte m (decimal n)
digits_lack m n o h = not_in_digits own (decimal n) m (digits_decimal own n h) o

-- a text that begins with a digit is no `-`
abbrev Begins : List ℕ → Type 0
Begins t = (0 < length t) × (get_or t 0 0 ≡ 45 → ⊥)

number_begins : (n : ℕ) → Small n → Begins (decimal n)
number_begins n h = (decimal_nonempty n h, λ e. digits_lack 45 n (λ i. let a = i.0 in omega arith) h 0 (decimal_nonempty n h) e)

begins_append : (s t : List ℕ) → Begins s → Begins (s ++ t)
begins_append [] t b = absurd (let h = b.0 in let n : ⊥ = omega arith in n)
begins_append (x ∷ xs) t b = (omega arith, b.1)

-- a run
run_back : (r : Run) → SmallRun r → run_in (run_text r) ≡ Some r
run_back (Single e) h = run_plain (decimal e) (digits_lack 120 e (λ i. let a = i.1 in omega arith) h.0) ∙ ap (option_map Single) (number_back e h.0)
run_back (Repeated e n) h =
    run_marked (run_text (Repeated e n)) (decimal e) (decimal n) refl (digits_lack 120 e (λ i. let a = i.1 in omega arith) h.0)
    ∙ ap (λ o. repeated_in o (number_in (decimal n))) (number_back e h.0) ∙ ap (repeated_in (Some e)) (number_back n h.1)

x_lacks : LacksByte 44 (codes "x")
x_lacks zero h e = omega arith
x_lacks (suc k) h e = omega arith

run_lacks : (r : Run) → SmallRun r → LacksByte 44 (run_text r)
run_lacks (Single e) h = digits_lack 44 e (λ i. let a = i.0 in omega arith) h.0
run_lacks (Repeated e n) h =
    lacks_append 44 (decimal e) (codes "x" ++ decimal n) (digits_lack 44 e (λ i. let a = i.0 in omega arith) h.0)
    (lacks_append 44 (codes "x") (decimal n) x_lacks (digits_lack 44 n (λ i. let a = i.0 in omega arith) h.1))

run_begins : (r : Run) → SmallRun r → Begins (run_text r)
run_begins (Single e) h = number_begins e h.0
run_begins (Repeated e n) h = begins_append (decimal e) (codes "x" ++ decimal n) (number_begins e h.0)

-- a list of items, each read back
module _ {A : Type 0} (text : A → List ℕ) (read : List ℕ → Option A) (Fit : A → Type 0) (back : (x : A) → Fit x → read (text x) ≡ Some x)
    (lacks : (x : A) → Fit x → LacksByte 44 (text x)) (begins : (x : A) → Fit x → Begins (text x)) where
  all_lack_mark : (xs : List A) → AllByRecursion Fit xs → AllLack 44 (map text xs)
  all_lack_mark [] h = tt
  all_lack_mark (x ∷ xs) h = (lacks x h.0, all_lack_mark xs h.1)

  each_back : (xs : List A) → AllByRecursion Fit xs → each_in read (map text xs) ≡ Some xs
  unfolding each_in
  each_back [] h = refl
  each_back (x ∷ xs) h = ap (λ o. onto o (each_in read (map text xs))) (back x h.0) ∙ ap (onto (Some x)) (each_back xs h.1)

  no_dash : (x : A) (xs : List A) → Fit x → join_with_byte 44 (map text (x ∷ xs)) ≡ codes "-" → ⊥
  no_dash x xs h e =
      (begins_append (text x) (tail_text 44 (map text xs)) (begins x h)).1
      (ap (λ t. get_or t 0 0) (sym (rejoined_tail 44 (text x) (map text xs)) ∙ e))

  list_back : (xs : List A) → AllByRecursion Fit xs → list_in read (list_text 44 (map text xs)) ≡ Some xs
  unfolding list_in list_text
  list_back [] h = refl
  list_back (x ∷ xs) h =
      sym (list_items read (join_with_byte 44 (map text (x ∷ xs))) (no_dash x xs h.0))
      ∙ ap (each_in read) (parts_rejoined 44 (text x) (map text xs) (all_lack_mark (x ∷ xs) h)) ∙ each_back (x ∷ xs) h

pub written_is_read : WrittenIsRead
written_is_read = (
  list_back decimal number_in Small number_back (λ n h. digits_lack 44 n (λ i. let a = i.0 in omega arith) h) number_begins,
  list_back run_text run_in SmallRun run_back run_lacks run_begins,
)
