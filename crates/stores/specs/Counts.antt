use Rattle.std.specs.Prelude.{◌≡◌, ℕ, zero, suc, ◌+◌, ◌<◌, ◌≤◌, Bool, true, false, cond, ◌==◌, nat_eq, refl}
use Rattle.std.proofs.Common.{sym, inl, inr, arith, add-one}
use Rattle.std.proofs.lemmas.Bool.{cases_lt, ne_eqb, eq-eqb}

-- How many of the numbers below n pass a test.
unfoldable pub count : (ℕ → Bool) → ℕ → ℕ
count f zero = 0
count f (suc n) = count f n + cond (f n) 1 0

-- one loop turn
pub count_start : (f : ℕ → Bool) → count f 0 ≡ 0
unfolding count
count_start f = refl

pub count_step : (f : ℕ → Bool) (n : ℕ) → count f (n + 1) ≡ count f n + cond (f n) 1 0
unfolding count
count_step f n = rw add-one

pub count_le : (f : ℕ → Bool) (n : ℕ) → count f n ≤ n
unfolding count
count_le f zero = omega arith
count_le f (suc n) =
    elim (f n) as (λ b. count f n + cond b 1 0 ≤ suc n) [
      | true ↦ omega (arith, count_le f n)
      | false ↦ omega (arith, count_le f n)
    ]

pub count_same : (f g : ℕ → Bool) (n : ℕ) → ((k : ℕ) → k < n → f k ≡ g k) → count f n ≡ count g n
unfolding count
count_same f g zero h = refl
count_same f g (suc n) h =
    let a = count_same f g n (λ k l. h k (omega arith)) in
    let b : f n ≡ g n = h n (omega arith) in
    cc

pub count_none : (f : ℕ → Bool) (n : ℕ) → ((k : ℕ) → k < n → f k ≡ false) → count f n ≡ 0
unfolding count
count_none f zero h = refl
count_none f (suc n) h =
    let a = count_none f n (λ k l. h k (omega arith)) in
    rw (h n (omega arith), a)

pub count_all : (f : ℕ → Bool) (n : ℕ) → ((k : ℕ) → k < n → f k ≡ true) → count f n ≡ n
unfolding count
count_all f zero h = refl
count_all f (suc n) h =
    let a = count_all f n (λ k l. h k (omega arith)) in
    rw (h n (omega arith), a) (omega arith)

-- where one number fails the test, fewer than all pass
pub count_missing : (f : ℕ → Bool) (c n : ℕ) → c < n → f c ≡ false → count f n < n
unfolding count
count_missing f c zero l e = omega arith
count_missing f c (suc n) l e =
    elim (cases_lt c n) [
      | inl b ↦
          elim (f n) as (λ b. count f n + cond b 1 0 < suc n) [
            | true ↦ omega (arith, count_missing f c n b e)
            | false ↦ omega (arith, count_missing f c n b e)
          ]
      | inr a ↦
          let at : c ≡ n = omega arith in
          let off : f n ≡ false = rw at at e in
          rw off (omega (arith, count_le f n))
    ]

-- one more passes
pub count_more : (f : ℕ → Bool) (c n : ℕ) → c < n → f c ≡ false → count (λ k. cond (k == c) true (f k)) n ≡ count f n + 1
unfolding count
count_more f c zero l e = absurd (omega arith)
count_more f c (suc n) l e =
    elim (cases_lt c n) [
      | inl b ↦
          let ih = count_more f c n b e in
          let off : nat_eq n c ≡ false = ne_eqb n c (omega arith) in
          rw (off, ih) (omega arith)
      | inr a ↦
          let at : c ≡ n = omega arith in
          let here : nat_eq n c ≡ true = eq-eqb n c (sym at) in
          let off : f n ≡ false = rw at at e in
          let same : count (λ k. cond (k == c) true (f k)) n ≡ count f n = count_same _ f n (λ k m. rw (ne_eqb k c (omega arith))) in
          rw (here, off, same) (omega arith)
    ]
