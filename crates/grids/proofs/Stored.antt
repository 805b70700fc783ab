use Rattle.std.proofs.Common.{◌≡◌, ℕ, zero, suc, ◌+◌, ◌<◌, ◌≤◌, map, refl, arith}
use Rattle.std.specs.List.{range_with_len}
use Rattle.axes.specs.Axes.{Axis}

-- axes that agree at each number are the same
pub axes_alike : (f g : ℕ → Axis) (a n : ℕ) → ((k : ℕ) → a ≤ k → k < a + n → f k ≡ g k) → map f (range_with_len a n) ≡ map g (range_with_len a n)
axes_alike f g a zero h = refl
axes_alike f g a (suc n) h =
    let p = h a (omega arith) (omega arith) in
    let q = axes_alike f g (a + 1) n (λ k l m. h k (omega arith) (omega arith)) in
    cc
