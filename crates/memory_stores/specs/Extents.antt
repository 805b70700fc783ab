use Rattle.std.specs.Prelude.{ℕ, ◌*◌, ◌/◌, ◌≤◌, min, cond, ◌==◌}
use Rattle.std.proofs.Common.{arith, div-mul-le_self, le_trans, mul-le-mul_right}
use Rattle.std.proofs.lemmas.Bool.{cond_both}

-- At most 65,536.
unfoldable pub capped : ℕ → ℕ
capped n = min n 65536

-- The whole widths in n values; none where the width is 0.
unfoldable pub whole_widths : ℕ → ℕ → ℕ
whole_widths w n = cond (w == 0) 0 (n / w)

-- The limit and the slots of an archive of n values.
unfoldable pub archive_limit : ℕ → ℕ → ℕ
archive_limit w n = capped (whole_widths (capped w) n)

-- The limit and the slots of a flat store of n values and m marks.
unfoldable pub flat_limit : ℕ → ℕ → ℕ → ℕ
flat_limit w n m = min m (archive_limit w n)

-- The limit of a pool for which l is given, 0 where the width is 0.
unfoldable pub pool_limit : ℕ → ℕ → ℕ
pool_limit w l = cond (w == 0) 0 (capped l)

-- The slots of a pool of n values, at most 256.
unfoldable pub pool_slots : ℕ → ℕ → ℕ
pool_slots w n = min 256 (whole_widths (capped w) n)

pub capped_small : (n : ℕ) → capped n ≤ 65536
unfolding capped
capped_small n = omega arith

capped_le : (n : ℕ) → capped n ≤ n
unfolding capped
capped_le n = omega arith

-- the whole widths lie in the values
wholes_fit : (w n : ℕ) → whole_widths w n * w ≤ n
unfolding whole_widths
wholes_fit w n = cond_both (w == 0) 0 (n / w) (λ x. x * w ≤ n) (λ e. omega arith) (λ e. div-mul-le_self n w)

pub archive_small : (w n : ℕ) → archive_limit w n ≤ 65536
unfolding archive_limit
archive_small w n = capped_small (whole_widths (capped w) n)

-- the chunks lie in the values
pub archive_fit : (w n : ℕ) → archive_limit w n * capped w ≤ n
unfolding archive_limit
archive_fit w n = le_trans (mul-le-mul_right (capped w) (capped_le (whole_widths (capped w) n))) (wholes_fit (capped w) n)

flat_le : (w n m : ℕ) → flat_limit w n m ≤ archive_limit w n
unfolding flat_limit
flat_le w n m = omega arith

pub flat_small : (w n m : ℕ) → flat_limit w n m ≤ 65536
flat_small w n m = omega (arith, flat_le w n m, archive_small w n)

pub flat_fit : (w n m : ℕ) → flat_limit w n m * capped w ≤ n
flat_fit w n m = le_trans (mul-le-mul_right (capped w) (flat_le w n m)) (archive_fit w n)

pub flat_marks : (w n m : ℕ) → flat_limit w n m ≤ m
unfolding flat_limit
flat_marks w n m = omega arith

pub pool_limit_small : (w l : ℕ) → pool_limit w l ≤ 65536
unfolding pool_limit
pool_limit_small w l = cond_both (w == 0) 0 (capped l) (λ x. x ≤ 65536) (λ e. omega arith) (λ e. capped_small l)

pub pool_slots_small : (w n : ℕ) → pool_slots w n ≤ 256
unfolding pool_slots
pool_slots_small w n = omega arith

slots_le : (w n : ℕ) → pool_slots w n ≤ whole_widths (capped w) n
unfolding pool_slots
slots_le w n = omega arith

-- the slots lie in the values
pub pool_fit : (w n : ℕ) → pool_slots w n * capped w ≤ n
pool_fit w n = le_trans (mul-le-mul_right (capped w) (slots_le w n)) (wholes_fit (capped w) n)
