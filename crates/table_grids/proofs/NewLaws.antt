use Rattle.std.proofs.Common.{◌≡◌, ℕ, zero, suc, ◌<◌, Bool, true, false, cond, eqb, leb, List, length, get_or, is_some, Some, None, Ok, Err, Option, Result, refl, ap, ◌∙◌, subst, arith}
use Rattle.std.proofs.lemmas.Bool.{both_ways}
use Rattle.edges.specs.declared.table.OffsetSize.{OffsetSize}
use Rattle.edges.specs.declared.fault.Cause.{Cause}
use Rattle.edges.specs.declared.fault.Cause.TheVariants.{Length, Axes, Short}
use Rattle.edges.specs.declared.fault.Fault.{Fault}
use Rattle.axes.specs.Axes.{Axis, axes_by}
use Rattle.grids.specs.Places.{refused, refused_at}
use Rattle.grids.specs.Making.{else_at, first_fault, unless}
use Rattle.grids.proofs.Never.{never}
use Rattle.table_grids.specs.declared.dimension.Dimension.{Dimension}
use Rattle.table_grids.specs.declared.dimension.Dimension.TheVariants.{Fixed}
use Rattle.table_grids.specs.Spans.{axis_of}
use Rattle.table_grids.specs.Causes.{axis_cause, axis_by_axis, new_table}

-- What axis a means, and why it is refused.
abbrev pub axis_at : List ℕ → List Dimension → List OffsetSize → ℕ → Axis
axis_at ns ds t a = axis_of t (get_or ns a 0) (get_or ds a (Fixed 0))

abbrev pub cause_at : (ℕ → ℕ → Bool) → List ℕ → List Dimension → List OffsetSize → ℕ → Option Cause
cause_at keeps ns ds t a = axis_cause keeps t (get_or ns a 0) (get_or ds a (Fixed 0))

pub none_of : (o : Option Cause) → is_some o ≡ false → o ≡ None
none_of None h = refl
none_of (Some c) h = absurd (both_ways true h refl)

-- a fault that names axis a has its cause there
fault_cause : (f : ℕ → Option Cause) (n a : ℕ) (c : Cause) → first_fault f n ≡ Some (refused_at c a) → f a ≡ Some c
unfolding first_fault
fault_cause f zero a c h = never (cc)
fault_cause f (suc n) a c h = go (first_fault f n) (f n) refl (fault_cause f n a c) h
  where
    go : (o : Option Fault) (q : Option Cause) → f n ≡ q → (o ≡ Some (refused_at c a) → f a ≡ Some c) → else_at o n q ≡ Some (refused_at c a) → f a ≡ Some c
    go (Some g) q e before h = before h
    go None None e before h = never (cc)
    go None (Some d) e before h =
        let same : refused_at d n ≡ refused_at c a = cc in
        subst (λ k. f k ≡ Some c) (ap (λ (f : Fault). f.axis) same) (e ∙ ap (λ (f : Fault). Some f.cause) same)

module _ (keeps : ℕ → ℕ → Bool) (ns : List ℕ) (ds : List Dimension) (t : List OffsetSize) where
  -- a refusal that names an axis has its cause there
  pub refused_cause : (a : ℕ) (c : Cause) → a < 8 → new_table keeps ns ds t ≡ Err (refused_at c a) → cause_at keeps ns ds t a ≡ Some c
  refused_cause a c l h = go (eqb (length ns) (length ds)) (leb (length ns) 8) (leb (length t) 65536) h
    where
      named : {B : Type 0} (d : Cause) → ◌≡◌ {A = Result (List Axis) Fault} (Err (refused d)) (Err (refused_at c a)) → B
      named d h =
          let same : refused d ≡ refused_at c a = cc in
          let m = ap (λ (f : Fault). f.axis) same in
          absurd (let n : ⊥ = omega arith in n)

      by : (o : Option Fault) → unless o (Ok (axes_by (length ns) (axis_at ns ds t))) ≡ Err (refused_at c a) → o ≡ Some (refused_at c a)
      by None h = never (cc)
      by (Some f) h = let m : f ≡ refused_at c a = cc in ap Some m

      go : (x y z : Bool) → cond x (cond y (cond z (axis_by_axis keeps ns ds t) (Err (refused Short))) (Err (refused Axes))) (Err (refused Length)) ≡ Err (refused_at c a)
          → cause_at keeps ns ds t a ≡ Some c
      go false y z h = named Length h
      go true false z h = named Axes h
      go true true false h = named Short h
      go true true true h = fault_cause (cause_at keeps ns ds t) (length ns) a c (by (first_fault (cause_at keeps ns ds t) (length ns)) h)

  -- what is made without a refusal is made axis by axis
  pub made_axes : (xs : List Axis) → new_table keeps ns ds t ≡ Ok xs → xs ≡ axes_by (length ns) (axis_at ns ds t)
  made_axes xs h = go (eqb (length ns) (length ds)) (leb (length ns) 8) (leb (length t) 65536) h
    where
      by : (o : Option Fault) → unless o (Ok (axes_by (length ns) (axis_at ns ds t))) ≡ Ok xs → xs ≡ axes_by (length ns) (axis_at ns ds t)
      by None h = cc
      by (Some f) h = never (cc)

      go : (x y z : Bool) → cond x (cond y (cond z (axis_by_axis keeps ns ds t) (Err (refused Short))) (Err (refused Axes))) (Err (refused Length)) ≡ Ok xs
          → xs ≡ axes_by (length ns) (axis_at ns ds t)
      go false y z h = never (cc)
      go true false z h = never (cc)
      go true true false h = never (cc)
      go true true true h = by (first_fault (cause_at keeps ns ds t) (length ns)) h
