use Rattle.std.proofs.Common.{◌≡◌, ℕ, ◌+◌, ◌*◌, ◌^◌, ◌<◌, ◌≤◌, Bool, true, false, ◌&&◌, ◌||◌, eqb, List, length, get_or, drop, Some, None, Ok, Err, Option, Result, sym, refl, ap, ◌∙◌, arith}
use Rattle.std.proofs.lemmas.List.{drop_more, at_drop_all}
use Rattle.std.proofs.lemmas.Bool.{eq-eqb, ne_eqb, cond-true}
use Rattle.edges.specs.declared.table.OffsetSize.{OffsetSize}
use Rattle.edges.specs.declared.fault.Cause.{Cause}
use Rattle.edges.specs.Answers.{no_entry}
use Rattle.edges.specs.Runs.{total, has_zero}
use Rattle.table_grids.specs.Spans.{sizes}
use Rattle.table_grids.specs.Causes.{laid, sum_cause, unless_cause, entries_cause}

or_assoc : (a b c : Bool) → ((a || b) || c) ≡ (a || (b || c))
or_assoc true b c = refl
or_assoc false b c = refl

or_false : (a : Bool) → (a || false) ≡ a
or_false true = refl
or_false false = refl

-- what a check answers says what the cause is
pub cause_none : (o : Option Cause) → ◌≡◌ {A = Result (Unit {0}) Cause} (Ok tt) (unless_cause o) → o ≡ None
cause_none None h = refl
cause_none (Some c) h = absurd (cc)

pub cause_some : (o : Option Cause) (c : Cause) → ◌≡◌ {A = Result (Unit {0}) Cause} (Err c) (unless_cause o) → o ≡ Some c
cause_some None c h = absurd (cc)
cause_some (Some d) c h = cc

-- What a pass over the entries has found so far: the end, and whether an edge is 0.
pub record Passed (es : List OffsetSize) (i end : ℕ) (zeroed : Bool) : Type 0 where
  pub laid_so_far : laid end (drop i es) ≡ laid 0 es
  pub zero_so_far : (zeroed || has_zero (sizes (drop i es))) ≡ has_zero (sizes es)
  pub total_so_far : end + total (sizes (drop i es)) ≡ total (sizes es)
  pub small : end ≤ i * 18446744073709551616

module _ (es : List OffsetSize) (i end : ℕ) (zeroed : Bool) (p : Passed es i end zeroed) where
  module _ (l : i < length es) where
    pub passed_more : (z : Bool) → (get_or es i no_entry).offset ≡ end → (get_or es i no_entry).size < 2 ^ 64
        → z ≡ (zeroed || eqb (get_or es i no_entry).size 0) → Passed es (i + 1) (end + (get_or es i no_entry).size) z
    unfolding laid has_zero total
    passed_more z o f e =
        let h = drop_more es i no_entry l in
        record {
          laid_so_far = sym (ap (laid end) h ∙ ap (λ b. b && laid (end + (get_or es i no_entry).size) (drop (i + 1) es)) (eq-eqb _ _ o)) ∙ p.laid_so_far;
          zero_so_far = ap (λ b. b || has_zero (sizes (drop (i + 1) es))) e
              ∙ or_assoc zeroed (eqb (get_or es i no_entry).size 0) (has_zero (sizes (drop (i + 1) es)))
              ∙ sym (ap (λ xs. zeroed || has_zero (sizes xs)) h) ∙ p.zero_so_far;
          total_so_far =
              let t : total (sizes (drop i es)) ≡ (get_or es i no_entry).size + total (sizes (drop (i + 1) es)) = ap (λ xs. total (sizes xs)) h in
              let q = p.total_so_far in
              omega arith;
          small = let q = p.small in omega arith;
        }

    pub broken : ((get_or es i no_entry).offset ≡ end → ⊥) → laid 0 es ≡ false
    unfolding laid
    broken n =
        sym p.laid_so_far ∙ ap (laid end) (drop_more es i no_entry l)
        ∙ ap (λ b. b && laid (end + (get_or es i no_entry).size) (drop (i + 1) es)) (ne_eqb _ _ n)

  module _ (l : length es ≤ i) where
    all_laid : laid 0 es ≡ true
    unfolding laid
    all_laid = sym p.laid_so_far ∙ at_drop_all (laid end) es i l

    all_zero : has_zero (sizes es) ≡ zeroed
    unfolding has_zero
    all_zero = sym p.zero_so_far ∙ at_drop_all (λ xs. zeroed || has_zero (sizes xs)) es i l ∙ or_false zeroed

    all_total : total (sizes es) ≡ end
    unfolding total
    all_total =
        let t : total (sizes (drop i es)) ≡ 0 = at_drop_all (λ xs. total (sizes xs)) es i l in
        let q = p.total_so_far in
        omega arith

    -- the cause, by what the pass has found
    pub cause_is : (keeps : ℕ → ℕ → Bool) (n : ℕ) → entries_cause keeps n es ≡ sum_cause keeps n (length es) zeroed end
    cause_is keeps n =
        cond-true (laid 0 es) _ _ all_laid
        ∙ ap (λ b. sum_cause keeps n (length es) b (total (sizes es))) all_zero
        ∙ ap (sum_cause keeps n (length es) zeroed) all_total
