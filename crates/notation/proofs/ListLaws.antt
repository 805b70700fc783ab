use Rattle.std.proofs.Common.{◌≡◌, ℕ, ◌+◌, ◌<◌, ◌≤◌, Bool, true, false, List, [], ◌∷◌, ◌++◌, length, get_or, drop, Some, None, Ok, Err, codes, Option, Result, subst, sym, refl, ap, ◌∙◌, arith, Bor}
use Rattle.std.specs.Option.{option_map}
use Rattle.std.specs.Str.Iter.{LacksByte}
use Rattle.std.specs.Str.{bytes_eq}
use Rattle.std.proofs.lemmas.Slice.Eq.{bytes_eq-Decides}
use Rattle.std.proofs.lemmas.Str.Pattern.{IsSplitOnceResult, split_parts}
use Rattle.std.proofs.lemmas.Bool.{cond-false}
use Rattle.std.proofs.lemmas.List.{append_assoc, append-nil, drop_more, at_drop_all}
use Rattle.edges.specs.declared.table.Run.TheVariants.{Single}
use Rattle.notation.specs.declared.error.ListError.{ListError}
use Rattle.notation.specs.declared.error.ListError.TheVariants.{NotAList, OutOfMemory}
use Rattle.std.specs.Result.{IsErrAnd}
use Rattle.notation.specs.Texts.{before, after, parts_at, number_in, texts}
use Rattle.notation.specs.Lists.{onto, each_in, list_in, repeated_in, run_with, run_in, Reads}
use Rattle.notation.proofs.TextLaws.{before_mark, after_mark, after_none}
use Rattle.notation.proofs.WordLaws.{no_text}

-- a run
pub run_plain : (t : List ℕ) → LacksByte 120 t → run_in t ≡ option_map Single (number_in t)
unfolding run_in
run_plain t l = ap (run_with t) (after_none 120 t l)

pub run_marked : (t e n : List ℕ) → t ≡ e ++ 120 ∷ n → LacksByte 120 e → run_in t ≡ repeated_in (number_in e) (number_in n)
unfolding run_in
run_marked t e n q l =
    ap (run_with t) (ap (after 120) q ∙ after_mark 120 e n l)
    ∙ ap (λ s. repeated_in (number_in s) (number_in n)) (ap (before 120) q ∙ before_mark 120 e n l)

-- the same of what `split_once` answers
pub run_whole : (t : List ℕ) → IsSplitOnceResult 120 t None → run_in t ≡ option_map Single (number_in t)
run_whole t h = run_plain t (split_parts 120 t None h (omega arith))

pub run_cut : (t : List ℕ) (e n : Bor (List ℕ)) → IsSplitOnceResult 120 t (Some (e, n)) → run_in t ≡ repeated_in (number_in e.now) (number_in n.now)
run_cut t e n h = let cut = split_parts 120 t (Some (e, n)) h (omega arith) in run_marked t e.now n.now cut.0 cut.1

-- the items of a list, one text after another
abbrev pub with_done : {A : Type 0} → List A → Option (List A) → Option (List A)
with_done done = option_map (λ xs. done ++ xs)

module _ {A : Type 0} (read : List ℕ → Option A) (words : List (Bor (List ℕ))) (i : ℕ) (done : List A)
    (p : with_done done (each_in read (texts (drop i words))) ≡ each_in read (texts words)) where
  module _ (l : i < length words) where
    next_item : each_in read (texts (drop i words)) ≡ onto (read (get_or words i no_text).now) (each_in read (texts (drop (i + 1) words)))
    unfolding each_in
    next_item = ap (λ xs. each_in read (texts xs)) (drop_more words i no_text l)

    pub each_none : None ≡ read (get_or words i no_text).now → None ≡ each_in read (texts words)
    each_none e = ap (λ o. with_done done (onto o (each_in read (texts (drop (i + 1) words))))) e ∙ ap (with_done done) (sym next_item) ∙ p

    pub each_more : (x : A) → Some x ≡ read (get_or words i no_text).now → with_done (done ++ x ∷ []) (each_in read (texts (drop (i + 1) words))) ≡ each_in read (texts words)
    each_more x e =
        pushed x (each_in read (texts (drop (i + 1) words)))
        ∙ ap (λ o. with_done done (onto o (each_in read (texts (drop (i + 1) words))))) e ∙ ap (with_done done) (sym next_item) ∙ p
      where
        pushed : (y : A) (o : Option (List A)) → with_done (done ++ y ∷ []) o ≡ with_done done (onto (Some y) o)
        pushed y None = refl
        pushed y (Some ys) = ap Some (append_assoc done (y ∷ []) ys)

  pub each_all : length words ≤ i → Some done ≡ each_in read (texts words)
  unfolding each_in
  each_all l = ap Some (sym (append-nil done)) ∙ ap (with_done done) (sym (at_drop_all (λ xs. each_in read (texts xs)) words i l)) ∙ p

-- the text of a list
pub list_items : {A : Type 0} (read : List ℕ → Option A) (t : List ℕ) → (t ≡ codes "-" → ⊥) → each_in read (parts_at 44 t) ≡ list_in read t
unfolding list_in
list_items read t n = sym (cond-false (bytes_eq t (codes "-")) _ _ (not_same (bytes_eq t (codes "-")) refl)) where
  not_same : (b : Bool) → bytes_eq t (codes "-") ≡ b → b ≡ false
  not_same true q = absurd (n ((bytes_eq-Decides t (codes "-")).0 q))
  not_same false q = refl

-- what is not read within another text is not read in that
pub still_unread : {A B C D : Type 0} (held : A → B) (held' : C → D) (e : ListError) (o : Option B) (o' : Option D) (r : Result C ListError) → IsErrAnd r (λ d. d ≡ e)
    → Reads held (Err e) o → (None ≡ o → None ≡ o') → Reads held' r o'
still_unread held held' e o o' (Ok x) i h k = absurd i
still_unread held held' NotAList o o' (Err d) i h k = subst (λ x. Reads held' (Err x) o') (sym i) (k h)
still_unread held held' (OutOfMemory e) o o' (Err d) i h k = subst (λ x. Reads held' (Err x) o') (sym i) tt
