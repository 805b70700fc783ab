use Rattle.std.specs.Prelude.{◌≡◌, ℕ, suc, ◌^◌, ◌<◌, ◌≤◌, true, List, length, is_some, Some, Option}
use Rattle.std.proofs.Common.{sym, ap, ◌∙◌, ⊎_elim, arith}
use Rattle.std.specs.List.{slice_get}
use Rattle.std.specs.Option.{unwrap_or}
use Rattle.std.proofs.lemmas.Option.{slice_get-get_or, slice_get_past}
use Rattle.std.proofs.lemmas.Bool.{cases_lt, both_ways}
use Rattle.axes.specs.Axes.{edge_at, origin, LawfulAxis, varying}
use Rattle.axes.specs.ChunkLaws.{origin_mono, origin_above}
use Rattle.axes.specs.AxisLaws.{nth_below}

some_below : (es : List ℕ) (k : ℕ) → is_some (slice_get es k) ≡ true → k < length es
some_below es k h =
    ⊎_elim (λ (l : k < length es). l)
    (λ (l : length es ≤ k). absurd (both_ways (is_some (slice_get es k)) (ap is_some (slice_get_past es k l)) h))
    (cases_lt k (length es))

below_some : (es : List ℕ) (k : ℕ) → k < length es → is_some (slice_get es k) ≡ true
below_some es k h = ap is_some (slice_get-get_or es k 0 h)

-- A varying axis is lawful where its edges are at least 1, and their sum has 64 bits and reaches the size.
pub varying_lawful : (n : ℕ) (es : List ℕ) → n < 2 ^ 64 → ((k e : ℕ) → slice_get es k ≡ Some e → 1 ≤ e)
    → origin (varying n es) (length es) < 2 ^ 64 → n ≤ origin (varying n es) (length es) → LawfulAxis (varying n es)
unfolding origin
varying_lawful n es fits positive ends reaches = record {
  positive = positive;
  gapless = λ j k l h. below_some es j (let b = some_below es k h in omega arith);
  counted = below_some es;
  covers = reaches;
  size_fits = fits;
  count_fits =
      let b = origin_above (varying n es) (length es)
      (λ j l. positive j (edge_at (varying n es) j)
      (let p = slice_get-get_or es j 0 l in p ∙ ap Some (sym (ap (λ (o : Option ℕ). unwrap_or o 0) p)))) in
      omega arith;
  edge_fits = λ k e h.
      let b = nth_below es k e h in
      let m = origin_mono (varying n es) (suc k) (length es) b in
      let v : edge_at (varying n es) k ≡ e = ap (λ (o : Option ℕ). unwrap_or o 0) h in
      omega arith;
}
