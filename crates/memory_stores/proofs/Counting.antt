use Rattle.std.proofs.Common.{◌≡◌, ℕ, zero, suc, ◌+◌, ◌<◌, ◌≤◌, Bool, false, cond, not, List, length, count_by, get_or, take, sym, refl, ap, ◌∙◌, inl, inr, add-one, arith}
use Rattle.std.specs.List.{range_with_len}
use Rattle.std.proofs.lemmas.Bool.{cases_Bool}
use Rattle.std.proofs.lemmas.List.{map-id}
use Rattle.std.proofs.lemmas.List.FromFn.{sum_by-map-range_with_len_more}
use Rattle.std.proofs.lemmas.List.Sums.{count_by_more_yes, count_by_more_no}
use Rattle.stores.specs.Counts.{count}

-- the numbers below n, written out
pub count_listed : (f : ℕ → Bool) (n : ℕ) → count f n ≡ count_by f (range_with_len 0 n)
unfolding count
count_listed f zero = refl
count_listed f (suc n) =
    let more = sum_by-map-range_with_len_more (λ k. cond (f k) 1 0) (λ k. k) 0 n n (omega arith) in
    ap (λ a. a + cond (f n) 1 0) (count_listed f n ∙ ap (count_by f) (sym (map-id (range_with_len 0 n))))
    ∙ sym more
    ∙ ap (count_by f) (map-id (range_with_len 0 (n + 1)) ∙ ap (range_with_len 0) (add-one n))

-- the marks among the first n that are not set, and those that are
pub unset_and_set : (ms : List Bool) (n : ℕ) → n ≤ length ms → count_by not (take n ms) + count (λ k. get_or ms k false) n ≡ n
unfolding count
unset_and_set ms zero h = refl
unset_and_set ms (suc n) h =
    let ih = unset_and_set ms n (omega arith) in
    let at : n < length ms = omega arith in
    elim (cases_Bool (get_or ms n false)) [
      | inl t ↦ rw (t, ap (λ k. count_by not (take k ms)) (sym (add-one n)), count_by_more_no not ms n false at (ap not t)) (omega arith)
      | inr f ↦ rw (f, ap (λ k. count_by not (take k ms)) (sym (add-one n)), count_by_more_yes not ms n false at (ap not f)) (omega arith)
    ]
