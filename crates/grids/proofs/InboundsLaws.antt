use Rattle.std.proofs.Common.{◌≡◌, ℕ, zero, suc, ◌<◌, ◌≤◌, Bool, true, false, ◌&&◌, List, length, get_or, sym, refl, ap, ◌∙◌, subst, zero-add, ⊎_elim, arith}
use Rattle.std.proofs.lemmas.List.FromFn.{length-enumerate_from, get_or-enumerate_from}
use Rattle.std.proofs.lemmas.Bool.{cases_lt, eq-eqb, and_from}
use Rattle.std.specs.Bool.{MatchBool}
use Rattle.std.specs.List.{slice_get, enumerate_from, AllWithin, HoldsAt}
use Rattle.axes.specs.Axes.{Axis}
use Rattle.grids.specs.Answers.{axis_inbounds, all_below, inbounds_at, inbounds}

-- a test of the first n numbers
below_all : (t : ℕ → Bool) (n : ℕ) → ((k : ℕ) → k < n → t k ≡ true) → all_below n t ≡ true
unfolding all_below
below_all t zero h = refl
below_all t (suc n) h = ap (λ b. b && t n) (below_all t n (λ k l. h k (omega arith))) ∙ h n (omega arith)

and_false : (b : Bool) → (b && false) ≡ false
and_false true = refl
and_false false = refl

below_fails : (t : ℕ → Bool) (n k : ℕ) → k < n → t k ≡ false → all_below n t ≡ false
unfolding all_below
below_fails t zero k l h = absurd (let n : ⊥ = omega arith in n)
below_fails t (suc n) k l h =
    ⊎_elim
    (λ (b : k < n). ap (λ b. b && t n) (below_fails t n k b h))
    (λ (b : n ≤ k). let e : n ≡ k = omega arith in ap (λ b. all_below n t && b) (ap t e ∙ h) ∙ and_false (all_below n t))
    (cases_lt k n)

module _ (xs : List Axis) (is : List ℕ) (same : length is ≡ length xs) where
  pub inbounds_all : ((k : ℕ) → k < length xs → inbounds_at xs is k ≡ true) → inbounds xs is ≡ true
  inbounds_all h = and_from _ _ (eq-eqb _ _ same) (below_all (inbounds_at xs is) (length xs) h)

  pub inbounds_fails : (k : ℕ) → k < length xs → inbounds_at xs is k ≡ false → inbounds xs is ≡ false
  inbounds_fails k l h =
      ap (λ b. b && all_below (length xs) (inbounds_at xs is)) (eq-eqb (length is) (length xs) same)
      ∙ below_fails (inbounds_at xs is) (length xs) k l h

-- one test of each index with its axis
module _ (xs : List Axis) (is : List ℕ) (same : length is ≡ length xs) where
  abbrev pub Is : Bool → ℕ × ℕ → Type 0
  Is b p = axis_inbounds p.1 (slice_get xs p.0) ≡ b

  tested : (b : Bool) (k : ℕ) → k < length is → Is b (get_or (enumerate_from 0 is) k (0, 0)) → inbounds_at xs is k ≡ b
  tested b k l h = rw zero-add at (subst (Is b) (get_or-enumerate_from 0 is k (0, 0) l) h)

  pub inbounds_decided : (r : Bool)
      → MatchBool r (AllWithin (Is true) (enumerate_from 0 is) 0 (length (enumerate_from 0 is)))
      ((k : ℕ) × (k < length (enumerate_from 0 is)) × HoldsAt (Is false) (enumerate_from 0 is) k) → r ≡ inbounds xs is
  inbounds_decided true h =
      let n = length-enumerate_from 0 is in
      sym (inbounds_all xs is same (λ k l. tested true k (omega arith) (h k (0, 0) (omega arith) (omega arith))))
  inbounds_decided false (k, l, h) =
      let n = length-enumerate_from 0 is in
      sym (inbounds_fails xs is same k (omega arith) (tested false k (omega arith) (h (0, 0))))
