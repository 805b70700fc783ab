use Rattle.std.proofs.Common.{◌≡◌, ℕ, zero, suc, ◌+◌, ◌<◌, ◌≤◌, Bool, true, false, cond, ◌⊎◌, List, [], ◌∷◌, ◌++◌, length, get_or, take, Some, None, Ok, Err, sym, refl, ap, ◌∙◌, subst, ap₂, inl, inr, ⊎_elim, le_refl, arith, length-append}
use Rattle.std.proofs.lemmas.List.{take_more, take_all, get_or-take, length-take-le, get_or_append_left, get_or_push}
use Rattle.std.proofs.lemmas.Bool.{cases_lt}
use Rattle.edges.specs.declared.fault.Cause.TheVariants.{Length}
use Rattle.edges.specs.declared.fault.Fault.{Fault}
use Rattle.axes.specs.Axes.{Axis}
use Rattle.grids.specs.Places.{Answer, Gives, refused, all_are}
use Rattle.grids.specs.Answers.{push, gathered, each_answer, list_answer}
use Rattle.grids.specs.Found.{FirstRefusal, AxisByAxis}
use Rattle.grids.specs.Laws.{GatheredLaws}
use Rattle.grids.proofs.Never.{never}

-- a list is the last answer after a list
push_some : (r : Answer (List ℕ)) (y : Answer ℕ) (xs : List ℕ) → push r y ≡ Ok (Some xs)
    → (ys : List ℕ) × (v : ℕ) × (r ≡ Ok (Some ys)) × (y ≡ Ok (Some v)) × (xs ≡ ys ++ v ∷ [])
push_some (Ok None) y xs h = never (cc)
push_some (Ok (Some ys)) (Ok None) xs h = never (cc)
push_some (Ok (Some ys)) (Ok (Some v)) xs h = (ys, v, refl, refl, cc)
push_some (Ok (Some ys)) (Err f) xs h = never (cc)
push_some (Err e) (Ok None) xs h = never (cc)
push_some (Err e) (Ok (Some v)) xs h = never (cc)
push_some (Err e) (Err f) xs h = never (cc)

-- an absent answer after others: one of the two is absent
push_absent : (r : Answer (List ℕ)) (y : Answer ℕ) → push r y ≡ Ok None → (r ≡ Ok None) ⊎ (y ≡ Ok None)
push_absent (Ok None) y h = inl refl
push_absent (Ok (Some ys)) (Ok None) h = inr refl
push_absent (Ok (Some ys)) (Ok (Some v)) h = never (cc)
push_absent (Ok (Some ys)) (Err f) h = never (cc)
push_absent (Err e) (Ok None) h = inr refl
push_absent (Err e) (Ok (Some v)) h = never (cc)
push_absent (Err e) (Err f) h = never (cc)

-- a refusal after others: one came before and nothing is absent, or this is the first
push_refused : (r : Answer (List ℕ)) (y : Answer ℕ) (e : Fault) → push r y ≡ Err e
    → ((r ≡ Err e) × (y ≡ Ok None → ⊥)) ⊎ ((ys : List ℕ) × (r ≡ Ok (Some ys)) × (y ≡ Err e))
push_refused (Ok None) y e h = never (cc)
push_refused (Ok (Some ys)) (Ok None) e h = never (cc)
push_refused (Ok (Some ys)) (Ok (Some v)) e h = never (cc)
push_refused (Ok (Some ys)) (Err f) e h = inr (ys, refl, cc)
push_refused (Err g) (Ok None) e h = never (cc)
push_refused (Err g) (Ok (Some v)) e h = inl (cc, λ z. never (cc))
push_refused (Err g) (Err f) e h = inl (cc, λ z. never (cc))

push_none : (r : Answer (List ℕ)) → push r (Ok None) ≡ Ok None
push_none (Ok None) = refl
push_none (Ok (Some xs)) = refl
push_none (Err e) = refl

push_err : (e : Fault) (y : Answer ℕ) → (y ≡ Ok None → ⊥) → push (Err e) y ≡ Err e
push_err e (Ok None) h = absurd (h refl)
push_err e (Ok (Some v)) h = refl
push_err e (Err f) h = refl

module _ (f : ℕ → Answer ℕ) where
  to : (n : ℕ) (xs : List ℕ) → gathered f n ≡ Ok (Some xs) → (length xs ≡ n) × ((a : ℕ) → a < n → f a ≡ Ok (Some (get_or xs a 0)))
  unfolding gathered
  to zero xs h = let e : xs ≡ [] = cc in (ap length e, λ a l. absurd (let n : ⊥ = omega arith in n))
  to (suc n) xs h =
      let (ys, v, p, q, e) = push_some (gathered f n) (f n) xs h in
      let (l, b) = to n ys p in (
        ap length e ∙ length-append ys (v ∷ []) ∙ (let z : length ys + 1 ≡ suc n = omega arith in z),
        λ a h.
            ⊎_elim
            (λ (m : a < n). b a m ∙ ap (λ (x : ℕ). Ok (Some x)) (sym (ap (λ zs. get_or zs a 0) e ∙ get_or_append_left ys (v ∷ []) 0 a (omega arith))))
            (λ (m : n ≤ a).
            let s : a ≡ n = omega arith in
            let t : a ≡ length ys = omega arith in
            ap f s ∙ q ∙ ap (λ (x : ℕ). Ok (Some x)) (sym (ap₂ (λ zs k. get_or zs k 0) e t ∙ get_or_push ys v 0 (length ys) refl)))
            (cases_lt a n),
      )

  from : (n : ℕ) (xs : List ℕ) → length xs ≡ n → ((a : ℕ) → a < n → f a ≡ Ok (Some (get_or xs a 0))) → gathered f n ≡ Ok (Some xs)
  unfolding gathered
  from zero [] l b = refl
  from zero (x ∷ xs) l b = absurd (let n : ⊥ = omega arith in n)
  from (suc n) xs l b =
      let h : n < length xs = omega arith in
      let r = from n (take n xs) (length-take-le n xs (omega arith)) (λ a m. b a (omega arith) ∙ ap (λ (x : ℕ). Ok (Some x)) (sym (get_or-take n xs a 0 m))) in
      ap₂ push r (b n (le_refl _))
      ∙ ap (λ (zs : List ℕ). Ok (Some zs)) (sym (take_more xs n 0 h) ∙ take_all (n + 1) xs (omega arith))

  pub absent : (n a : ℕ) → a < n → f a ≡ Ok None → gathered f n ≡ Ok None
  unfolding gathered
  absent zero a l h = absurd (let n : ⊥ = omega arith in n)
  absent (suc n) a l h =
      ⊎_elim
      (λ (m : a < n). ap (λ r. push r (f n)) (absent n a m h))
      (λ (m : n ≤ a). let s : n ≡ a = omega arith in ap (push (gathered f n)) (ap f s ∙ h) ∙ push_none (gathered f n))
      (cases_lt a n)

  absent_at : (n : ℕ) → gathered f n ≡ Ok None → (a : ℕ) × (a < n) × (f a ≡ Ok None)
  unfolding gathered
  absent_at zero h = never (cc)
  absent_at (suc n) h =
      ⊎_elim
      (λ (p : gathered f n ≡ Ok None). let (a, l, e) = absent_at n p in (a, omega arith, e))
      (λ (p : f n ≡ Ok None). (n, le_refl _, p))
      (push_absent (gathered f n) (f n) h)

  listed : (n : ℕ) → ((k : ℕ) → k < n → (v : ℕ) × (f k ≡ Ok (Some v))) → (ys : List ℕ) × (gathered f n ≡ Ok (Some ys))
  unfolding gathered
  listed zero b = ([], refl)
  listed (suc n) b =
      let (ys, p) = listed n (λ k l. b k (omega arith)) in
      let (v, q) = b n (le_refl _) in
      (ys ++ v ∷ [], ap₂ push p q)

  refusal_at : (n a : ℕ) (e : Fault) → a < n → ((k : ℕ) → k < n → f k ≡ Ok None → ⊥) → ((k : ℕ) → k < a → (v : ℕ) × (f k ≡ Ok (Some v))) → f a ≡ Err e
      → gathered f n ≡ Err e
  unfolding gathered
  refusal_at zero a e l some b h = absurd (let n : ⊥ = omega arith in n)
  refusal_at (suc n) a e l some b h =
      ⊎_elim
      (λ (m : a < n). ap (λ r. push r (f n)) (refusal_at n a e m (λ k l. some k (omega arith)) b h) ∙ push_err e (f n) (some n (le_refl _)))
      (λ (m : n ≤ a).
      let s : n ≡ a = omega arith in
      let (ys, p) = listed n (λ k l. b k (omega arith)) in
      ap₂ push p (ap f s ∙ h))
      (cases_lt a n)

  -- a refusal before axis n stays the first where axis n is not absent
  refused_before : (n : ℕ) (e : Fault) → FirstRefusal f n e → (f n ≡ Ok None → ⊥) → FirstRefusal f (suc n) e
  refused_before n e (some, (a, l, v, b)) q = (
    (λ k l z.
        ⊎_elim
        (λ (m : k < n). some k m z)
        (λ (m : n ≤ k). let s : k ≡ n = omega arith in q (subst (λ i. f i ≡ Ok None) s z))
        (cases_lt k n)),
    (a, omega arith, v, b),
  )

  -- where all axes before axis n answer, its refusal is the first
  refused_here : (n : ℕ) (e : Fault) (ys : List ℕ) → gathered f n ≡ Ok (Some ys) → f n ≡ Err e → FirstRefusal f (suc n) e
  refused_here n e ys p q =
      let (l, b) = to n ys p in (
        (λ k l z.
            ⊎_elim
            (λ (m : k < n). let w = b k m in never (cc))
            (λ (m : n ≤ k). let s : k ≡ n = omega arith in let w = subst (λ i. f i ≡ Ok None) s z in never (cc))
            (cases_lt k n)),
        (n, le_refl _, q, λ k m. (get_or ys k 0, b k m)),
      )

  refused_first : (n : ℕ) (e : Fault) → gathered f n ≡ Err e → FirstRefusal f n e
  unfolding gathered
  refused_first zero e h = never (cc)
  refused_first (suc n) e h =
      ⊎_elim
      (λ (b : (gathered f n ≡ Err e) × (f n ≡ Ok None → ⊥)). refused_before n e (refused_first n e b.0) b.1)
      (λ (b : (ys : List ℕ) × (gathered f n ≡ Ok (Some ys)) × (f n ≡ Err e)). refused_here n e b.0 b.1 b.2)
      (push_refused (gathered f n) (f n) e h)

  -- what the answers of the axes as one tell of each
  pub told : (n : ℕ) (before after : List ℕ) (r : Answer (Unit {0})) → Gives before after r (gathered f n) → AxisByAxis f n r after
  told n before after r gives = go (gathered f n) refl gives
    where
      go : (d : Answer (List ℕ)) → gathered f n ≡ d → Gives before after r d → AxisByAxis f n r after
      go (Ok (Some ks)) p (e, w) = rw (e, w) (to n ks p).1
      go (Ok None) p (e, w) = rw e (absent_at n p)
      go (Err g) p (e, w) = rw e (inr (refused_first n g p))

-- the same of a list question, which looks at the lengths first
pub axis_by_axis : (f : List Axis → ℕ → ℕ → Answer ℕ) (xs : List Axis) (ks before after : List ℕ) (r : Answer (Unit {0}))
    → Gives before after r (list_answer f xs ks (length before)) → AxisByAxis (λ a. f xs a (get_or ks a 0)) (length xs) r after
axis_by_axis f xs ks before after r gives = go (all_are (length xs) (length ks ∷ length before ∷ [])) gives
  where
    go : (b : Bool) → Gives before after r (cond b (each_answer f xs ks) (Err (refused Length)))
        → AxisByAxis (λ a. f xs a (get_or ks a 0)) (length xs) r after
    go true gives = told (λ a. f xs a (get_or ks a 0)) (length xs) before after r gives
    go false (e, w) = rw e (inl refl)

pub gathered_laws : GatheredLaws
gathered_laws f n = ((λ xs. (to f n xs, λ (l, b). from f n xs l b)), (absent_at f n, λ (a, l, e). absent f n a l e), refusal_at f n)
