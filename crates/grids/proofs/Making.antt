use Rattle.std.proofs.Common.{◌≡◌, ℕ, zero, suc, ◌<◌, ◌≤◌, Some, None, Ok, Err, Option, refl, ap, ◌∙◌, ⊎_elim, arith}
use Rattle.std.proofs.lemmas.Bool.{cases_lt}
use Rattle.edges.specs.declared.fault.Cause.{Cause}
use Rattle.axes.specs.Axes.{Axis, axes_by}
use Rattle.grids.specs.Places.{refused_at}
use Rattle.grids.specs.Making.{else_at, first_fault, unless, made_by}

-- The first fault among the axes.
module _ (f : ℕ → Option Cause) where
  pub no_fault : (n : ℕ) → ((k : ℕ) → k < n → f k ≡ None) → first_fault f n ≡ None
  unfolding first_fault
  no_fault zero b = refl
  no_fault (suc n) b = ap (λ o. else_at o n (f n)) (no_fault n (λ k l. b k (omega arith))) ∙ ap (else_at None n) (b n (omega arith))

  pub fault_at : (n a : ℕ) (c : Cause) → a < n → ((k : ℕ) → k < a → f k ≡ None) → f a ≡ Some c → first_fault f n ≡ Some (refused_at c a)
  unfolding first_fault
  fault_at zero a c l b e = absurd (let n : ⊥ = omega arith in n)
  fault_at (suc n) a c l b e =
      ⊎_elim
      (λ (p : a < n). ap (λ o. else_at o n (f n)) (fault_at n a c p b e))
      (λ (p : n ≤ a).
      let q : n ≡ a = omega arith in
      ap (λ o. else_at o n (f n)) (no_fault n (λ k l. b k (omega arith))) ∙ ap (else_at None n) (ap f q ∙ e) ∙ ap (λ k. Some (refused_at c k)) q)
      (cases_lt a n)

module _ (n : ℕ) (f : ℕ → Option Cause) (axis : ℕ → Axis) where
  pub made_refused : (a : ℕ) (c : Cause) → a < n → ((k : ℕ) → k < a → f k ≡ None) → f a ≡ Some c → made_by n f axis ≡ Err (refused_at c a)
  made_refused a c l b h = ap (λ o. unless o (Ok (axes_by n axis))) (fault_at f n a c l b h)

  pub made_all : ((k : ℕ) → k < n → f k ≡ None) → made_by n f axis ≡ Ok (axes_by n axis)
  made_all b = ap (λ o. unless o (Ok (axes_by n axis))) (no_fault f n b)
