use Rattle.std.proofs.Common.{◌≡◌, ℕ, zero, suc, ◌+◌, ◌-◌, ◌*◌, ◌^◌, ◌<◌, ◌≤◌, min, Bool, true, false, cond, ◌||◌, eqb, ltb, List, [], ◌∷◌, ◌++◌, length, get_or, drop, replicate, Ok, Err, Result, sym, refl, ap, ◌∙◌, add_assoc, mul-le-mul_right, one-mul, mul-zero, zero-add, mul-one, mul-add, arith}
use Rattle.std.proofs.lemmas.List.{drop_more, at_drop_all, length-append, length-replicate}
use Rattle.std.proofs.lemmas.Bool.{eqb-false, or_parts, cond-true, cond-false, lt-ltb, le-ltb}
use Rattle.edges.specs.declared.table.Run.{Run}
use Rattle.edges.specs.declared.table.Run.TheVariants.{Single}
use Rattle.edges.specs.declared.fault.Fault.{Fault}
use Rattle.edges.specs.declared.fault.Cause.TheVariants.{Zero, Overflow}
use Rattle.edges.specs.Refusals.{edges_refusal}
use Rattle.edges.specs.Runs.{run_edge, run_count, expand, total, zero_in, zero_in_some}
use Rattle.edges.specs.Answers.{parts_answer, number_answer}

pub total-append : (xs ys : List ℕ) → total (xs ++ ys) ≡ total xs + total ys
unfolding total
total-append [] ys = sym (zero-add (total ys))
total-append (x ∷ xs) ys = ap (λ n. x + n) (total-append xs ys) ∙ sym (add_assoc x (total xs) (total ys))

pub total-replicate : (n e : ℕ) → total (replicate n e) ≡ e * n
unfolding total
total-replicate zero e = sym (mul-zero e)
total-replicate (suc n) e = ap (λ m. e + m) (total-replicate n e) ∙ (let h : e * (1 + n) ≡ e * 1 + e * n = mul-add e 1 n in let g : suc n ≡ 1 + n = omega arith in let k : e * suc n ≡ e * (1 + n) = ap (λ m. e * m) g in let o = mul-one e in omega arith)

pub length-expand : (r : Run) (rs : List Run) → length (expand (r ∷ rs)) ≡ run_count r + length (expand rs)
unfolding expand
length-expand r rs = length-append (replicate (run_count r) (run_edge r)) (expand rs) ∙ ap (λ n. n + length (expand rs)) (length-replicate (run_count r) (run_edge r))

pub total-expand : (r : Run) (rs : List Run) → total (expand (r ∷ rs)) ≡ run_edge r * run_count r + total (expand rs)
unfolding expand
total-expand r rs = total-append (replicate (run_count r) (run_edge r)) (expand rs) ∙ ap (λ n. n + total (expand rs)) (total-replicate (run_count r) (run_edge r))

abbrev pub no_run : Run
no_run = Single 0

abbrev pub made : ℕ → ℕ → Result (ℕ × ℕ) Fault
made e n = Ok (e, n)

-- what `parts` answers
pub parts_ok : (r : Run) (e n : ℕ) → made e n ≡ parts_answer r → (zero_in r ≡ false) × (e ≡ run_edge r) × (n ≡ run_count r)
parts_ok r e n p = go (zero_in r) refl p where
  go : (b : Bool) → zero_in r ≡ b → made e n ≡ cond b (Err (edges_refusal Zero)) (made (run_edge r) (run_count r)) → (zero_in r ≡ false) × (e ≡ run_edge r) × (n ≡ run_count r)
  go true z q = absurd (let k : ◌≡◌ {A = ℕ} 0 1 = cc in omega arith)
  go false z q =
      let k : ◌≡◌ {A = ℕ × ℕ} (e, n) (run_edge r, run_count r) = cc in
      (z, ap (λ x. x.0) k, ap (λ x. x.1) k)

pub parts_err : (r : Run) (f : Fault) → Err f ≡ parts_answer r → (zero_in r ≡ true) × (f ≡ edges_refusal Zero)
parts_err r f p = go (zero_in r) refl p where
  go : (b : Bool) → zero_in r ≡ b → Err f ≡ cond b (Err (edges_refusal Zero)) (made (run_edge r) (run_count r)) → (zero_in r ≡ true) × (f ≡ edges_refusal Zero)
  go true z q = (z, (cc))
  go false z q = absurd (let k : ◌≡◌ {A = ℕ} 0 1 = cc in omega arith)

pub edge_positive : (r : Run) → zero_in r ≡ false → 1 ≤ run_edge r
edge_positive r z = let h = eqb-false (run_edge r) 0 (or_parts (eqb (run_edge r) 0) (eqb (run_count r) 0) z).0 in omega arith

pub count_positive : (r : Run) → zero_in r ≡ false → 1 ≤ run_count r
count_positive r z = let h = eqb-false (run_count r) 0 (or_parts (eqb (run_edge r) 0) (eqb (run_count r) 0) z).1 in omega arith

none_le_none : length (expand []) ≤ total (expand [])
unfolding expand total
none_le_none = omega arith

-- no zero: there are no more edges than their sum
pub length_le_total : (rs : List Run) → zero_in_some rs ≡ false → length (expand rs) ≤ total (expand rs)
unfolding zero_in_some
length_le_total [] z = none_le_none
length_le_total (r ∷ rs) z =
    let p = or_parts (zero_in r) (zero_in_some rs) z in
    let h = length_le_total rs p.1 in
    let a = length-expand r rs in
    let b = total-expand r rs in
    let e : 1 ≤ run_edge r = edge_positive r p.0 in
    let m : 1 * run_count r ≤ run_edge r * run_count r = mul-le-mul_right (run_count r) e in
    let o : 1 * run_count r ≡ run_count r = one-mul (run_count r) in
    omega arith

-- what a pass over the runs has found so far
pub record Counted (rs : List Run) (i sum number : ℕ) : Type 0 where
  pub zeros : zero_in_some (drop i rs) ≡ zero_in_some rs
  pub sums : min (sum + total (expand (drop i rs))) (2 ^ 128 - 1) ≡ min (total (expand rs)) (2 ^ 128 - 1)
  pub small : number < 2 ^ 64
  pub numbers : min (number + length (expand (drop i rs))) (2 ^ 64 - 1) ≡ min (length (expand rs)) (2 ^ 64 - 1)

module _ (rs : List Run) (i sum number : ℕ) (p : Counted rs i sum number) where
  module _ (l : i < length rs) where
    pub counted_more : (e n sum' number' : ℕ) → made e n ≡ parts_answer (get_or rs i no_run)
        → sum' ≡ min (sum + e * n) (2 ^ 128 - 1) → number' ≡ min (number + n) (2 ^ 64 - 1) → Counted rs (i + 1) sum' number'
    unfolding zero_in_some
    counted_more e n sum' number' q s m =
        let r = get_or rs i no_run in
        let h = drop_more rs i no_run l in
        let k = parts_ok r e n q in
        let t : total (expand (drop i rs)) ≡ e * n + total (expand (drop (i + 1) rs))
        = ap (λ xs. total (expand xs)) h ∙ total-expand r (drop (i + 1) rs) ∙ ap (λ x. x * run_count r + total (expand (drop (i + 1) rs))) (sym k.1) ∙ ap (λ x. e * x + total (expand (drop (i + 1) rs))) (sym k.2) in
        let c : length (expand (drop i rs)) ≡ n + length (expand (drop (i + 1) rs))
        = ap (λ xs. length (expand xs)) h ∙ length-expand r (drop (i + 1) rs) ∙ ap (λ x. x + length (expand (drop (i + 1) rs))) (sym k.2) in
        let a = p.sums in
        let b = p.numbers in
        record {
          zeros = sym (ap zero_in_some h ∙ ap (λ z. z || zero_in_some (drop (i + 1) rs)) k.0) ∙ p.zeros;
          sums = omega arith;
          small = omega arith;
          numbers = omega arith;
        }

    pub counted_zero : (f : Fault) → Err f ≡ parts_answer (get_or rs i no_run) → Err f ≡ number_answer rs
    unfolding number_answer zero_in_some
    counted_zero f q =
        let k = parts_err (get_or rs i no_run) f q in
        let z : zero_in_some rs ≡ true
        = sym p.zeros ∙ ap zero_in_some (drop_more rs i no_run l) ∙ ap (λ b. b || zero_in_some (drop (i + 1) rs)) k.0 in
        ap Err k.1 ∙ sym (cond-true (zero_in_some rs) _ _ z)

  module _ (l : length rs ≤ i) where
    no_zeros : zero_in_some rs ≡ false
    unfolding zero_in_some
    no_zeros = sym p.zeros ∙ at_drop_all zero_in_some rs i l

    sum_is : min sum (2 ^ 128 - 1) ≡ min (total (expand rs)) (2 ^ 128 - 1)
    unfolding expand total
    sum_is = let h : total (expand (drop i rs)) ≡ 0 = at_drop_all (λ xs. total (expand xs)) rs i l in let q = p.sums in omega arith

    number_is : min number (2 ^ 64 - 1) ≡ min (length (expand rs)) (2 ^ 64 - 1)
    unfolding expand
    number_is = let h : length (expand (drop i rs)) ≡ 0 = at_drop_all (λ xs. length (expand xs)) rs i l in let q = p.numbers in omega arith

    pub counted_over : 2 ^ 64 - 1 < sum → Err (edges_refusal Overflow) ≡ number_answer rs
    unfolding number_answer
    counted_over o =
        let s = sum_is in
        sym (cond-false (zero_in_some rs) _ _ no_zeros ∙ cond-false (ltb (total (expand rs)) (2 ^ 64)) _ _ (le-ltb (total (expand rs)) (2 ^ 64) (omega arith)))

    pub counted_all : sum ≤ 2 ^ 64 - 1 → Ok number ≡ number_answer rs
    unfolding number_answer
    counted_all o =
        let s = sum_is in
        let n = number_is in
        let f = p.small in
        let k = length_le_total rs no_zeros in
        let e : number ≡ length (expand rs) = omega arith in
        ap Ok e ∙ sym (cond-false (zero_in_some rs) _ _ no_zeros ∙ cond-true (ltb (total (expand rs)) (2 ^ 64)) _ _ (lt-ltb (total (expand rs)) (2 ^ 64) (omega arith)))
