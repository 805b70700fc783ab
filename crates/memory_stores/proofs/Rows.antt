use Rattle.std.proofs.Common.{◌≡◌, ℕ, ◌+◌, ◌-◌, ◌*◌, ◌<◌, ◌≤◌, List, [], ◌∷◌, ◌++◌, length, get_or, take, drop, set, replicate, sym, refl, ap, subst, ◌∙◌, inl, inr, mul-le-mul_right, add-mul, arith, length-append, length-drop}
use borrow.Rule.Slice.PartMut.{put_mid}
use Rattle.std.specs.List.{FoldsTo}
use Rattle.std.proofs.lemmas.Bool.{cases_lt}
use Rattle.std.proofs.lemmas.Fn.{chained_keeps}
use Rattle.std.proofs.lemmas.List.{get_or-take, get_or-drop, get_or_append_left, get_or-append_right, length-take-le, set-append_left, set-append_right, take-append-drop}

-- a row below l rows lies in the values
pub row_below : (l w n s : ℕ) → l * w ≤ n → s < l → s * w + w ≤ n
row_below l w n s fit h =
    let less : s + 1 ≤ l = omega arith in
    omega (arith, mul-le-mul_right w less, add-mul s 1 w)

same_more : {A : Type 0} (v : A) (xs : List A) (x : A) → xs ≡ replicate (length xs) v → x ≡ v → xs ++ x ∷ [] ≡ replicate (length (xs ++ x ∷ [])) v
same_more v [] x e f = ap (λ y. y ∷ []) f
same_more v (y ∷ xs) x e f =
    let rest : xs ≡ replicate (length xs) v = cc in
    let ih = same_more v xs x rest f in
    cc

-- what calls give that always give v, where what is called stays as it is
pub fills : {A F : Type 0} (R : F → A → F → Type 0) (v : A) (f : F) → ((x : A) (f' : F) → R f x f' → (x ≡ v) × (f' ≡ f)) → (f' : F) (xs : List A) → FoldsTo R f xs f' → xs ≡ replicate (length xs) v
fills R v f says f' xs ran =
    (chained_keeps R (λ ys q. (ys ≡ replicate (length ys) v) × (q ≡ f)) (λ ys q x q' e k.
    let s = says x q' (subst (λ q. R q x q') e.1 k) in
    (same_more v ys x e.0 s.0, s.1)) xs f f' (refl, refl) ran).0

-- k values from a on are ys, the rest of xs as it was
module _ {A : Type 0} (a k : ℕ) (xs : List A) (fits : a + k ≤ length xs) where
  front : length (take a xs) ≡ a
  front = length-take-le a xs (omega arith)

  pub length-part : (ys : List A) → length ys ≡ k → length (put_mid a k xs ys) ≡ length xs
  length-part ys e =
      simp (length-append, length-drop) (omega (arith, front))

  pub part_in : (ys : List A) (q : ℕ) (d : A) → length ys ≡ k → q < k → get_or (put_mid a k xs ys) (a + q) d ≡ get_or ys q d
  part_in ys q d e h =
      get_or-append_right (take a xs) _ a (a + q) d front (omega arith)
      ∙ ap (λ i. get_or (ys ++ drop k (drop a xs)) i d) (omega arith)
      ∙ get_or_append_left ys _ d q (omega arith)

  pub part_out : (ys : List A) (i : ℕ) (d : A) → length ys ≡ k → ((q : ℕ) → q < k → i ≡ a + q → ⊥) → get_or (put_mid a k xs ys) i d ≡ get_or xs i d
  part_out ys i d e out = elim (cases_lt i a) [
    | inl h ↦ get_or_append_left (take a xs) _ d i (omega (arith, front)) ∙ get_or-take a xs i d h
    | inr o ↦
        let past : k ≤ i - a = elim (cases_lt (i - a) k) [ inl h ↦ absurd (out (i - a) h (omega arith)) | inr p ↦ p ] in
        get_or-append_right (take a xs) _ a i d front o
        ∙ get_or-append_right ys _ k (i - a) d e past
        ∙ get_or-drop k (drop a xs) (i - a - k) d
        ∙ get_or-drop a xs (k + (i - a - k)) d
        ∙ ap (λ j. get_or xs j d) (omega arith)
  ]

  -- one value of a part is set
  pub part_set : (p : ℕ) (v : A) → p < k → put_mid a k xs (set (take k (drop a xs)) p v) ≡ set xs (a + p) v
  part_set p v h =
      let rest : List A = drop a xs in
      let long : length rest ≡ length xs - a = length-drop a xs in
      ap (λ zs. take a xs ++ zs)
      (sym (set-append_left (take k rest) (drop k rest) p v (omega (arith, length-take-le k rest (omega arith)))) ∙ ap (λ zs. set zs p v) (take-append-drop k rest))
      ∙ ap (λ i. take a xs ++ set rest i v) (omega arith)
      ∙ sym (set-append_right (take a xs) rest a (a + p) v front (omega arith))
      ∙ ap (λ zs. set zs (a + p) v) (take-append-drop a xs)
