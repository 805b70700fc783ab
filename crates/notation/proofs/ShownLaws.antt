use Rattle.std.proofs.Common.{◌≡◌, ℕ, ◌+◌, ◌-◌, ◌<◌, ◌≤◌, List, [], ◌∷◌, ◌++◌, map, length, get_or, take, drop, Some, None, Ok, codes, decimal, Option, sym, refl, ap, ◌∙◌, arith}
use lib.Utf8.{encode}
use Rattle.std.specs.List.{join_with_byte}
use Rattle.std.specs.Fmt.{DisplaysOnOk, option_append}
use Rattle.std.specs.declared.fmt.Formatter.{Formatter}
use Rattle.std.proofs.Output.{then_text_assoc, displays_on_IsOk_append, displays_on_ok_of_eq, writes_in_calls_nil}
use Rattle.std.proofs.lemmas.List.{append-nil, take_more, take_all, take_rest}
use Rattle.notation.specs.Lists.{list_text}
use Rattle.notation.specs.Shown.{more_shown, list_shown}

then_nil : (o : Option (List ℕ)) → option_append o (Some []) ≡ o
then_nil None = refl
then_nil (Some a) = ap Some (append-nil a)

nil_then : (o : Option (List ℕ)) → option_append (Some []) o ≡ o
nil_then None = refl
nil_then (Some a) = refl

-- a list that is written item by item
module _ {A : Type 0} (shown : A → Option (List ℕ)) (m : ℕ) where
  more_push : (xs : List A) (x : A) → more_shown shown m (xs ++ x ∷ []) ≡ option_append (more_shown shown m xs) (option_append (Some (encode m)) (shown x))
  unfolding more_shown
  more_push [] x = then_nil (option_append (Some (encode m)) (shown x)) ∙ sym (nil_then (option_append (Some (encode m)) (shown x)))
  more_push (y ∷ ys) x =
      ap (option_append (option_append (Some (encode m)) (shown y))) (more_push ys x)
      ∙ sym (then_text_assoc (option_append (Some (encode m)) (shown y)) (more_shown shown m ys) (option_append (Some (encode m)) (shown x)))

  pub list_none : (xs : List A) → length xs < 1 → Some (codes "-") ≡ list_shown shown m xs
  unfolding list_shown
  list_none [] h = refl
  list_none (x ∷ xs) h = absurd (let n : ⊥ = omega arith in n)

  pub list_some : (xs : List A) (x : A) → 1 ≤ length xs → x ≡ get_or xs 0 x → option_append (shown x) (more_shown shown m (take (length xs - 1) (drop 1 xs))) ≡ list_shown shown m xs
  unfolding list_shown
  list_some [] x h e = absurd (let n : ⊥ = omega arith in n)
  list_some (y ∷ ys) x h e =
      ap (λ z. option_append (shown z) (more_shown shown m (take (length (y ∷ ys) - 1) ys))) e
      ∙ ap (λ zs. option_append (shown y) (more_shown shown m zs)) (take_rest (y ∷ ys) 1)

  module _ {W : Type 0} (took : W → List ℕ → W → Type 0) (f : Formatter W) where
    -- the first i of the items are written
    abbrev pub Listing : List A → ℕ → Formatter W → Type 0
    Listing xs i g = DisplaysOnOk took f (Ok tt) (more_shown shown m (take i xs)) g

    pub listing_none : (xs : List A) → Listing xs 0 f
    unfolding more_shown
    listing_none xs = λ p ok. record { wrote = writes_in_calls_nil took f.writer; plain = p }

    pub listing_more : (xs : List A) (i : ℕ) (g h : Formatter W) (x : A) → Listing xs i g → i < length xs → x ≡ get_or xs i x
        → DisplaysOnOk took g (Ok tt) (option_append (Some (encode m)) (shown x)) h → Listing xs (i + 1) h
    listing_more xs i g h x p l e s =
        displays_on_ok_of_eq took f h (Ok tt) _ _
        (sym (ap (more_shown shown m) (take_more xs i x l ∙ ap (λ y. take i xs ++ y ∷ []) (sym e)) ∙ more_push (take i xs) x))
        (displays_on_IsOk_append took f g h (Ok tt) (Ok tt) (more_shown shown m (take i xs)) (option_append (Some (encode m)) (shown x)) (λ ok. refl) p s)

  module _ {W : Type 0} (took : W → List ℕ → W → Type 0) where
    -- the first item, and after it all of the rest
    pub listing_all : (f g h : Formatter W) (xs : List A) (i : ℕ) (x : A) → 1 ≤ length xs → x ≡ get_or xs 0 x → length (take (length xs - 1) (drop 1 xs)) ≤ i
        → DisplaysOnOk took f (Ok tt) (shown x) g → Listing took g (take (length xs - 1) (drop 1 xs)) i h → DisplaysOnOk took f (Ok tt) (list_shown shown m xs) h
    listing_all f g h xs i x some e all first p =
        displays_on_ok_of_eq took f h (Ok tt) _ _ (list_some xs x some e)
        (displays_on_IsOk_append took f g h (Ok tt) (Ok tt) (shown x) (more_shown shown m (take (length xs - 1) (drop 1 xs))) (λ ok. refl) first
        (displays_on_ok_of_eq took g h (Ok tt) _ _ (ap (more_shown shown m) (take_all i (take (length xs - 1) (drop 1 xs)) all)) p))

-- the texts of more items, with a mark before each
unfoldable pub tail_text : ℕ → List (List ℕ) → List ℕ
tail_text m [] = []
tail_text m (t ∷ ts) = m ∷ t ++ tail_text m ts

pub rejoined_tail : (m : ℕ) (t : List ℕ) (ts : List (List ℕ)) → join_with_byte m (t ∷ ts) ≡ t ++ tail_text m ts
unfolding tail_text
rejoined_tail m t [] = sym (append-nil t)
rejoined_tail m t (u ∷ us) = ap (λ xs. t ++ m ∷ xs) (rejoined_tail m u us)

-- items that are always written
module _ {A : Type 0} (text : A → List ℕ) (m : ℕ) (ascii : encode m ≡ m ∷ []) where
  more_text : (xs : List A) → more_shown (λ x. Some (text x)) m xs ≡ Some (tail_text m (map text xs))
  unfolding more_shown tail_text
  more_text [] = refl
  more_text (x ∷ xs) =
      ap (option_append (Some (encode m ++ text x))) (more_text xs)
      ∙ ap (λ ms. Some ((ms ++ text x) ++ tail_text m (map text xs))) ascii

  pub shown_text : (xs : List A) → list_shown (λ x. Some (text x)) m xs ≡ Some (list_text m (map text xs))
  unfolding list_shown list_text
  shown_text [] = refl
  shown_text (x ∷ xs) = ap (option_append (Some (text x))) (more_text xs) ∙ ap Some (sym (rejoined_tail m (text x) (map text xs)))

  -- the same of a mark and items that are known to be these
  listed_text : (n : ℕ) (xs ys : List A) → n ≡ m → xs ≡ ys → list_shown (λ x. Some (text x)) n xs ≡ Some (list_text m (map text ys))
  listed_text n xs ys e q = ap (λ k. list_shown (λ x. Some (text x)) k xs) e ∙ ap (list_shown (λ x. Some (text x)) m) q ∙ shown_text ys

  -- a number, a name and the list
  pub counted_text : (k : ℕ) (name : List ℕ) (n : ℕ) (xs ys : List A) → n ≡ m → xs ≡ ys → k ≡ length ys
      → option_append (Some (decimal k)) (option_append (Some name) (list_shown (λ x. Some (text x)) n xs)) ≡ Some (decimal (length ys) ++ (name ++ list_text m (map text ys)))
  counted_text k name n xs ys e q h =
      ap (λ o. option_append (Some (decimal k)) (option_append (Some name) o)) (listed_text n xs ys e q) ∙ ap (λ c. Some (decimal c ++ (name ++ list_text m (map text ys)))) h

  -- a name and a list, and with another name and list after it
  pub named_text : (name : List ℕ) (n : ℕ) (xs ys : List A) → n ≡ m → xs ≡ ys → option_append (Some name) (list_shown (λ x. Some (text x)) n xs) ≡ Some (name ++ list_text m (map text ys))
  named_text name n xs ys e q = ap (option_append (Some name)) (listed_text n xs ys e q)

  pub paired_text : (name mid : List ℕ) (n n' : ℕ) (xs xs' ys ys' : List A) → n ≡ m → n' ≡ m → xs ≡ ys → xs' ≡ ys'
      → option_append (Some name) (option_append (list_shown (λ x. Some (text x)) n xs) (option_append (Some mid) (list_shown (λ x. Some (text x)) n' xs')))
      ≡ Some (name ++ (list_text m (map text ys) ++ (mid ++ list_text m (map text ys'))))
  paired_text name mid n n' xs xs' ys ys' e e' q q' =
      ap (λ o. option_append (Some name) (option_append (list_shown (λ x. Some (text x)) n xs) o)) (named_text mid n' xs' ys' e' q')
      ∙ ap (λ o. option_append (Some name) (option_append o (Some (mid ++ list_text m (map text ys'))))) (listed_text n xs ys e q)
