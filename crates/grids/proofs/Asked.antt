use Rattle.std.proofs.Common.{◌≡◌, ℕ, zero, suc, ◌^◌, ◌<◌, ◌≤◌, ltb, List, [], ◌∷◌, Some, None, Ok, Err, subst, zero-add}
use Rattle.std.proofs.lemmas.Bool.{cond-true, cond-false, lt-ltb, le-ltb}
use Rattle.edges.specs.declared.fault.Cause.TheVariants.{Overflow}
use Rattle.std.specs.List.{slice_get}
use Rattle.axes.specs.Axes.{Axis, Each, axes_by}
use Rattle.axes.specs.AxisLaws.{nth_from, nth_after}
use Rattle.grids.proofs.Never.{never}
use Rattle.grids.specs.Places.{refused_at}
use Rattle.grids.specs.Answers.{within}

pub nth_here : (n : ℕ) (f : ℕ → Axis) (a : ℕ) → a < n → slice_get (axes_by n f) a ≡ Some (f a)
nth_here n f a h = nth_from f 0 n a a (zero-add a) h

pub nth_past : (n : ℕ) (f : ℕ → Axis) (a : ℕ) → n ≤ a → slice_get (axes_by n f) a ≡ None
nth_past n f a h = nth_after f 0 n a h

pub within_fits : (a o : ℕ) → o < 2 ^ 64 → within a o ≡ Ok (Some o)
within_fits a o h = cond-true (ltb o (2 ^ 64)) _ _ (lt-ltb o (2 ^ 64) h)

pub within_over : (a o : ℕ) → 2 ^ 64 ≤ o → within a o ≡ Err (refused_at Overflow a)
within_over a o h = cond-false (ltb o (2 ^ 64)) _ _ (le-ltb o (2 ^ 64) h)

-- what holds of each axis holds of axis a
pub each_at : (P : Axis → Type 0) (xs : List Axis) (a : ℕ) (x : Axis) → Each P xs → slice_get xs a ≡ Some x → P x
each_at P [] a x e h = never (cc)
each_at P (y ∷ xs) zero x e h = let q : y ≡ x = cc in subst P q e.0
each_at P (y ∷ xs) (suc a) x e h = each_at P xs a x e.1 h
