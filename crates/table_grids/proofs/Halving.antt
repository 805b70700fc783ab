use Rattle.std.proofs.Common.{◌≡◌, ℕ, suc, ◌+◌, ◌-◌, ◌^◌, ◌<◌, ◌≤◌, List, length, get_or, Some, None, Option, unwrap_or, sym, ap, ◌∙◌, ⊎_elim, arith}
use Rattle.std.proofs.lemmas.List.{length-map}
use Rattle.std.proofs.lemmas.Bool.{cases_lt}
use Rattle.edges.specs.declared.table.OffsetSize.{OffsetSize}
use Rattle.edges.specs.Answers.{no_entry}
use Rattle.axes.specs.Axes.{Axis, edge_at, origin, Contains, chunk_of, varying}
use Rattle.axes.specs.ChunkLaws.{origin_mono, before_later, chunk_contains, chunk_none}
use Rattle.table_grids.specs.Spans.{sizes}
use Rattle.table_grids.specs.Valid.{ValidSpan, size_at, origin_sum, end_sum, span_lawful}

-- every chunk that contains index i lies from low on and before high
abbrev pub Between : Axis → ℕ → ℕ → ℕ → Type 0
Between x i low high = (k : ℕ) → Contains x k i → (low ≤ k) × (k < high)

-- a chunk that contains an index before chunk m lies before m
before : (x : Axis) (i k m : ℕ) → Contains x k i → i < origin x m → k < m
before x i k m c h =
    ⊎_elim (λ (l : k < m). l)
    (λ (l : m ≤ k). absurd (let o = origin_mono x m k l in let low = c.2 in let n : ⊥ = omega arith in n))
    (cases_lt k m)

-- a chunk that contains an index past chunk m lies past m
after : (x : Axis) (i k m : ℕ) → Contains x k i → origin x (suc m) ≤ i → suc m ≤ k
after x i k m c h =
    ⊎_elim (λ (l : k < suc m). absurd (before_later x i k (suc m) c h l)) (λ (l : suc m ≤ k). l) (cases_lt k (suc m))

module _ (n : ℕ) (es : List OffsetSize) (v : ValidSpan n es) where
  abbrev axis : Axis
  axis = varying n (sizes es)

  -- an entry's offset is its chunk's origin
  pub offset_is : (k : ℕ) → k < length es → (get_or es k no_entry).offset ≡ origin (varying n (sizes es)) k
  offset_is k l = v.offsets k l ∙ sym (origin_sum n (sizes es) k (let e : length (sizes es) ≡ length es = length-map es _ in omega arith))

  pub origin_fits : (k : ℕ) → k < length es → origin (varying n (sizes es)) k < 2 ^ 64
  origin_fits k l =
      let e : length (sizes es) ≡ length es = length-map es _ in
      let m = origin_mono axis k (length (sizes es)) (omega arith) in
      let s = end_sum n (sizes es) in
      let f = v.end_fits in
      omega arith

  module _ (i low high m : ℕ) (b : Between (varying n (sizes es)) i low high) (l : m < length es) where
    pub lower_half : i < (get_or es m no_entry).offset → Between (varying n (sizes es)) i low m
    lower_half h k c = ((b k c).0, before axis i k m c (let o = offset_is m l in omega arith))

    pub upper_half : (get_or es m no_entry).offset ≤ i → (get_or es m no_entry).size ≤ i - (get_or es m no_entry).offset
        → Between (varying n (sizes es)) i (m + 1) high
    unfolding origin
    upper_half h g k c =
        let o = offset_is m l in
        let s : edge_at (varying n (sizes es)) m ≡ (get_or es m no_entry).size = ap (λ (o : Option ℕ). unwrap_or o 0) (size_at es m l) in
        let a = after axis i k m c (omega arith) in
        (omega arith, (b k c).1)

  pub found : (i m : ℕ) → n < 2 ^ 64 → m < length es → (get_or es m no_entry).offset ≤ i → i - (get_or es m no_entry).offset < (get_or es m no_entry).size
      → Some m ≡ chunk_of (varying n (sizes es)) i
  found i m fits l h g =
      let o = offset_is m l in
      sym (chunk_contains axis (span_lawful n es fits v) i m ((get_or es m no_entry).size, size_at es m l, omega arith, omega arith))

  pub not_found : (i low high : ℕ) → Between (varying n (sizes es)) i low high → high ≤ low → None ≡ chunk_of (varying n (sizes es)) i
  not_found i low high b h = sym (chunk_none axis i (λ k c. let q = b k c in let n : ⊥ = omega arith in n))
