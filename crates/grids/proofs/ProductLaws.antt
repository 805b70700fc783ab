use Rattle.std.proofs.Common.{◌≡◌, ℕ, zero, suc, ◌+◌, ◌*◌, ◌<◌, ◌≤◌, true, false, eqb, List, [], ◌∷◌, ◌++◌, length, get_or, take, Decides, sym, refl, ap, ◌∙◌, ⊎_elim, le_refl, mul_assoc, mul-le-mul_left, mul-pos, one-mul, mul-zero, zero-mul, mul-one, arith}
use Rattle.std.proofs.lemmas.List.{take_more}
use Rattle.std.proofs.lemmas.Bool.{both_ways, or_cases, eqb-true}
use Rattle.grids.specs.Answers.{has_zero}
use Rattle.grids.proofs.RegionLaws.{positive_at}
use Rattle.axes.specs.Fitting.{product}

product-append : (xs ys : List ℕ) → product (xs ++ ys) ≡ product xs * product ys
product-append [] ys = sym (one-mul (product ys))
product-append (x ∷ xs) ys = ap (λ n. x * n) (product-append xs ys) ∙ sym (mul_assoc x (product xs) (product ys))

pub product_more : (xs : List ℕ) (i : ℕ) → i < length xs → product (take (i + 1) xs) ≡ product (take i xs) * get_or xs i 0
product_more xs i l =
    ap product (take_more xs i 0 l) ∙ product-append (take i xs) (get_or xs i 0 ∷ []) ∙ ap (λ n. product (take i xs) * n) (mul-one (get_or xs i 0))

product_pos : (xs : List ℕ) → ((k : ℕ) → k < length xs → get_or xs k 0 ≡ 0 → ⊥) → 1 ≤ product xs
product_pos [] h = omega arith
product_pos (x ∷ xs) h =
    let p : 0 < x = let z = h 0 (omega arith) in omega (arith, z) in
    mul-pos p (product_pos xs (λ k l e. h (suc k) (omega arith) e))

-- a front of positive numbers multiplies to no more than the whole
product_front : (xs : List ℕ) (i : ℕ) → ((k : ℕ) → k < length xs → get_or xs k 0 ≡ 0 → ⊥) → product (take i xs) ≤ product xs
product_front xs zero h = product_pos xs h
product_front [] (suc i) h = le_refl 1
product_front (x ∷ xs) (suc i) h = mul-le-mul_left x (product_front xs i (λ k l e. h (suc k) (omega arith) e))

nonzero : (xs : List ℕ) → has_zero xs ≡ false → (k : ℕ) → k < length xs → get_or xs k 0 ≡ 0 → ⊥
nonzero xs h k l e = let p = positive_at xs k h l in let n : ⊥ = omega arith in n

-- a front that exceeds the limit
pub product_over : (xs : List ℕ) (i s limit : ℕ) → has_zero xs ≡ false → i < length xs → s ≡ product (take i xs) → limit < s * get_or xs i 0 → product xs ≤ limit → ⊥
product_over xs i s limit h l e o q =
    let f = product_front xs (i + 1) (nonzero xs h) in
    let m : product (take (i + 1) xs) ≡ s * get_or xs i 0 = product_more xs i l ∙ ap (λ n. n * get_or xs i 0) (sym e) in
    omega arith

pub decided_yes : {P : Type 0} → P → Decides true P
decided_yes p = ((λ _. p), (λ _. refl))

pub decided_no : {P : Type 0} → (P → ⊥) → Decides false P
decided_no n = ((λ e. absurd (both_ways false refl e)), (λ p. absurd (n p)))

pub product_none : (xs : List ℕ) → has_zero xs ≡ true → product xs ≡ 0
product_none [] h = absurd (both_ways false refl h)
product_none (x ∷ xs) h =
    ⊎_elim
    (λ (p : eqb x 0 ≡ true). ap (λ n. n * product xs) (eqb-true x 0 p) ∙ zero-mul (product xs))
    (λ (p : has_zero xs ≡ true). ap (λ n. x * n) (product_none xs p) ∙ mul-zero x)
    (or_cases (eqb x 0) (has_zero xs) h)

pub product_some : (xs : List ℕ) → has_zero xs ≡ false → 0 < product xs
product_some xs h = product_pos xs (nonzero xs h)
