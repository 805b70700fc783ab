use Rattle.std.proofs.Common.{◌≡◌, ℕ, ◌*◌, ◌^◌, ◌<◌, ◌≤◌, Bool, true, false, cond, ltb, Some, None, Ok, sym, refl, arith}
use Rattle.std.proofs.lemmas.Bool.{ltb-true}
use Rattle.axes.specs.Axes.{origin, rounded_up, bounded}
use Rattle.axes.specs.BoundedLaws.{bounded-origin, before_count}
use Rattle.grids.specs.Answers.{origin_at}
use Rattle.grids.proofs.Asked.{within_fits}
use Rattle.regular_grids.specs.LengthAxes.{start_below}

module _ (n s k : ℕ) (p : 1 ≤ s) where
  -- a chunk that begins below the size has a rest of the size
  pub start_before : (o : ℕ) → Some o ≡ start_below n s k → o < n
  start_before o h = go (ltb k (rounded_up n s)) refl h
    where
      go : (b : Bool) → ltb k (rounded_up n s) ≡ b → Some o ≡ cond b (Some (k * s)) None → o < n
      go false q h = absurd (cc)
      go true q h = let l = before_count n s k p (ltb-true _ _ q) in let e : o ≡ k * s = cc in omega arith

  -- a chunk begins where the bounded axis has its origin
  pub origin_start : (a : ℕ) → n < 2 ^ 64 → Ok (start_below n s k) ≡ origin_at a k (bounded n s)
  origin_start a fits = go (ltb k (rounded_up n s)) refl
    where
      go : (b : Bool) → ltb k (rounded_up n s) ≡ b → Ok (start_below n s k) ≡ origin_at a k (bounded n s)
      go false q = rw q refl
      go true q =
          let l = before_count n s k p (ltb-true _ _ q) in
          let o : origin (bounded n s) k ≡ k * s = let r = bounded-origin n s p k in omega arith in
          rw (q, o) (sym (within_fits a (k * s) (omega arith)))
