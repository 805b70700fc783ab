use Rattle.std.proofs.Common.{◌≡◌, ℕ, ◌+◌, ◌*◌, ◌<◌, ◌≤◌, true, ◌&&◌, ltb, List, length, arith}
use Rattle.std.proofs.lemmas.Bool.{lt-ltb}
use Rattle.stores.specs.Counts.{count, count_all}
use Rattle.stores.specs.Held.{free}
use Rattle.memory_stores.specs.Extents.{capped, archive_limit, archive_fit}
use Rattle.memory_stores.specs.Meanings.{archive_held}
use Rattle.memory_stores.proofs.Rows.{row_below}

module _ {E : Type 0} (v : E) (xs : List E) (w : ℕ) where
  abbrev n : ℕ
  n = archive_limit w (length xs)

  pub archive_free : 0 ≡ free (archive_held v xs w)
  archive_free =
      let e : count (λ k. ltb k n && true) n ≡ n = count_all (λ k. ltb k n && true) n (λ k h. rw (lt-ltb k n h)) in
      omega (arith, e)

  pub archive_row : (c : ℕ) → c < n → c * capped w + capped w ≤ length xs
  archive_row c a = row_below n (capped w) (length xs) c (archive_fit w (length xs)) a
