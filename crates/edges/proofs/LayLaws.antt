use Rattle.std.proofs.Common.{◌≡◌, ℕ, zero, suc, ◌+◌, ◌-◌, ◌*◌, ◌^◌, ◌<◌, ◌≤◌, Bool, true, false, cond, ltb, leb, List, [], ◌∷◌, ◌++◌, map, length, get_or, take, drop, set, replicate, Ok, Err, sym, refl, ap, ◌∙◌, add-zero, add_assoc, mul-zero, zero-add, mul-one, mul-add, arith}
use borrow.Rule.Slice.PartMut.{put_mid}
use Rattle.std.proofs.lemmas.List.{drop_more, drop-drop, at_drop_all, length-append, length-replicate, append_assoc, append-nil, take_more_set, take_at, take-append-drop, replicate_more, get_or_append_left, length-take-le, length-drop}
use Rattle.std.proofs.lemmas.Slice.{take-put_mid, drop-put_mid}
use Rattle.std.proofs.lemmas.Bool.{or_parts, cond-true, cond-false, le-leb, lt-leb, ltb-true}
use Rattle.edges.specs.declared.table.Run.{Run}
use Rattle.edges.specs.declared.table.OffsetSize.{OffsetSize}
use Rattle.edges.specs.declared.fault.Fault.{Fault}
use Rattle.edges.specs.declared.fault.Cause.TheVariants.{Zero, Overflow, Short}
use Rattle.edges.specs.Refusals.{edges_refusal}
use Rattle.edges.specs.Runs.{run_edge, run_count, expand, total, offsets, zero_in, zero_in_some}
use Rattle.edges.specs.Answers.{number_answer, lay_answer, Laid, no_entry}
use Rattle.edges.proofs.RunLaws.{no_run, total-append, total-replicate, edge_positive, count_positive}

abbrev pub row : ℕ → ℕ → OffsetSize
row o e = record { offset = o; size = e }

pub offsets-append : (o : ℕ) (xs ys : List ℕ) → offsets o (xs ++ ys) ≡ offsets o xs ++ offsets (o + total xs) ys
unfolding offsets total
offsets-append o [] ys = ap (λ n. offsets n ys) (sym (add-zero o))
offsets-append o (x ∷ xs) ys =
    ap (λ zs. row o x ∷ zs) (offsets-append (o + x) xs ys ∙ ap (λ n. offsets (o + x) xs ++ offsets n ys) (add_assoc o x (total xs)))

pub length-offsets : (o : ℕ) (es : List ℕ) → length (offsets o es) ≡ length es
unfolding offsets
length-offsets o [] = refl
length-offsets o (e ∷ es) = ap suc (length-offsets (o + e) es)

pub sizes_of_offsets : (o : ℕ) (es : List ℕ) → map (λ r. r.size) (offsets o es) ≡ es
unfolding offsets
sizes_of_offsets o [] = refl
sizes_of_offsets o (e ∷ es) = ap (λ xs. e ∷ xs) (sizes_of_offsets (o + e) es)

pub offset_at : (o : ℕ) (es : List ℕ) (k : ℕ) → k < length es → (get_or (offsets o es) k no_entry).offset ≡ o + total (take k es)
unfolding offsets total
offset_at o [] k h = absurd (let n : ⊥ = omega arith in n)
offset_at o (e ∷ es) zero h = sym (add-zero o)
offset_at o (e ∷ es) (suc k) h = offset_at (o + e) es k (omega arith) ∙ add_assoc o e (total (take k es))

-- a run laid into its place, up to row i
pub record Filling (start e i next : ℕ) (place : List OffsetSize) : Type 0 where
  pub ahead : next ≡ start + e * i
  pub written : take i place ≡ offsets start (replicate i e)

module _ (start e : ℕ) where
  pub filling_none : (place : List OffsetSize) → Filling start e 0 start place
  unfolding offsets
  filling_none place = record { ahead = let h = mul-zero e in omega arith; written = refl }

  module _ (i next : ℕ) (place : List OffsetSize) (p : Filling start e i next place) where
    pub filling_more : i < length place → Filling start e (i + 1) (next + e) (set place i (row next e))
    unfolding offsets
    filling_more l =
        let a = p.ahead in
        let d = mul-add e i 1 in
        let o = mul-one e in
        record {
          ahead = omega arith;
          written = take_more_set place i (row next e) l
              ∙ ap (λ xs. xs ++ row next e ∷ []) p.written
              ∙ ap (λ n. offsets start (replicate i e) ++ row n e ∷ []) (a ∙ ap (λ n. start + n) (sym (total-replicate i e)))
              ∙ sym (offsets-append start (replicate i e) (e ∷ []))
              ∙ ap (offsets start) (replicate_more i e);
        }

-- what `number_of_edges` answers
pub number_ok : (rs : List Run) (n : ℕ) → Ok n ≡ number_answer rs
    → (zero_in_some rs ≡ false) × (ltb (total (expand rs)) (2 ^ 64) ≡ true) × (n ≡ length (expand rs))
unfolding number_answer
number_ok rs n p = go (zero_in_some rs) (ltb (total (expand rs)) (2 ^ 64)) refl refl p where
  go : (a b : Bool) → zero_in_some rs ≡ a → ltb (total (expand rs)) (2 ^ 64) ≡ b
      → Ok n ≡ cond a (Err (edges_refusal Zero)) (cond b (Ok (length (expand rs))) (Err (edges_refusal Overflow)))
      → (zero_in_some rs ≡ false) × (ltb (total (expand rs)) (2 ^ 64) ≡ true) × (n ≡ length (expand rs))
  go true b z t q = absurd (let k : ◌≡◌ {A = ℕ} 0 1 = cc in omega arith)
  go false true z t q = (z, t, (cc))
  go false false z t q = absurd (let k : ◌≡◌ {A = ℕ} 0 1 = cc in omega arith)

-- its refusals are those of `lay`
pub number_err : (rs : List Run) (room : ℕ) (f : Fault) → Err f ≡ number_answer rs → lay_answer rs room ≡ Err f
unfolding number_answer lay_answer
number_err rs room f p = go (zero_in_some rs) (ltb (total (expand rs)) (2 ^ 64)) p where
  go : (a b : Bool)
      → Err f ≡ cond a (Err (edges_refusal Zero)) (cond b (Ok (length (expand rs))) (Err (edges_refusal Overflow)))
      → cond a (Err (edges_refusal Zero)) (cond b (cond (leb (length (expand rs)) room) (Ok (offsets 0 (expand rs))) (Err (edges_refusal Short))) (Err (edges_refusal Overflow))) ≡ Err f
  go true b q = let e : edges_refusal Zero ≡ f = cc in ap Err e
  go false true q = absurd (let k : ◌≡◌ {A = ℕ} 0 1 = cc in omega arith)
  go false false q = let e : edges_refusal Overflow ≡ f = cc in ap Err e

module _ (rs : List Run) (room n : ℕ) (p : Ok n ≡ number_answer rs) where
  asked : lay_answer rs room ≡ cond (leb (length (expand rs)) room) (Ok (offsets 0 (expand rs))) (Err (edges_refusal Short))
  unfolding lay_answer
  asked = let k = number_ok rs n p in cond-false (zero_in_some rs) _ _ k.0 ∙ cond-true (ltb (total (expand rs)) (2 ^ 64)) _ _ k.1

  pub too_short : room < n → lay_answer rs room ≡ Err (edges_refusal Short)
  too_short h =
      let k = (number_ok rs n p).2 in
      asked ∙ cond-false (leb (length (expand rs)) room) _ _ (lt-leb (length (expand rs)) room (omega arith))

  pub room_enough : n ≤ room → lay_answer rs room ≡ Ok (offsets 0 (expand rs))
  room_enough h =
      let k = (number_ok rs n p).2 in
      asked ∙ cond-true (leb (length (expand rs)) room) _ _ (le-leb (length (expand rs)) room (omega arith))

-- a table with the runs before i laid into it
pub record Laying (rs : List Run) (before : List OffsetSize) (i at offset : ℕ) (table : List OffsetSize) : Type 0 where
  pub zeros : zero_in_some (drop i rs) ≡ false
  pub number : at + length (expand (drop i rs)) ≡ length (expand rs)
  pub sums : offset + total (expand (drop i rs)) ≡ total (expand rs)
  pub written : take at table ++ offsets offset (expand (drop i rs)) ≡ offsets 0 (expand rs)
  pub kept : drop at table ≡ drop at before
  pub room : length (expand rs) ≤ length before
  pub fits : total (expand rs) < 2 ^ 64

-- the run at i: its edge and its count, p, neither of them 0, its room and its end
pub record Here (rs : List Run) (before : List OffsetSize) (i at offset : ℕ) (p : ℕ × ℕ) : Type 0 where
  pub edge : p.0 ≡ run_edge (get_or rs i no_run)
  pub count : p.1 ≡ run_count (get_or rs i no_run)
  pub some_edge : 1 ≤ p.0
  pub some_count : 1 ≤ p.1
  pub room : at + p.1 ≤ length before
  pub fits : offset + p.0 * p.1 < 2 ^ 64

pub laying_none : (rs : List Run) (before : List OffsetSize) (n : ℕ) → Ok n ≡ number_answer rs → n ≤ length before → Laying rs before 0 0 0 before
laying_none rs before n p h =
    let k = number_ok rs n p in
    let e = k.2 in
    let f = ltb-true (total (expand rs)) (2 ^ 64) k.1 in
    record { zeros = k.0; number = zero-add (length (expand rs)); sums = zero-add (total (expand rs)); written = refl; kept = refl; room = omega arith; fits = f }

module _ (rs : List Run) (before : List OffsetSize) (i at offset : ℕ) (table : List OffsetSize) (p : Laying rs before i at offset table) where
  module _ (l : i < length rs) (e n : ℕ) (es : e ≡ run_edge (get_or rs i no_run)) (ns : n ≡ run_count (get_or rs i no_run)) where
    ahead : drop i rs ≡ get_or rs i no_run ∷ drop (i + 1) rs
    ahead = drop_more rs i no_run l

    zeros_here : (zero_in (get_or rs i no_run) ≡ false) × (zero_in_some (drop (i + 1) rs) ≡ false)
    unfolding zero_in_some
    zeros_here = or_parts (zero_in (get_or rs i no_run)) (zero_in_some (drop (i + 1) rs)) (sym (ap zero_in_some ahead) ∙ p.zeros)

    edges_here : expand (drop i rs) ≡ replicate n e ++ expand (drop (i + 1) rs)
    unfolding expand
    edges_here = ap expand ahead ∙ ap (λ m. replicate m (run_edge (get_or rs i no_run)) ++ expand (drop (i + 1) rs)) (sym ns) ∙ ap (λ m. replicate n m ++ expand (drop (i + 1) rs)) (sym es)

    number_here : length (expand (drop i rs)) ≡ n + length (expand (drop (i + 1) rs))
    number_here = ap length edges_here ∙ length-append (replicate n e) (expand (drop (i + 1) rs)) ∙ ap (λ m. m + length (expand (drop (i + 1) rs))) (length-replicate n e)

    sum_here : total (expand (drop i rs)) ≡ e * n + total (expand (drop (i + 1) rs))
    sum_here = ap total edges_here ∙ total-append (replicate n e) (expand (drop (i + 1) rs)) ∙ ap (λ m. m + total (expand (drop (i + 1) rs))) (total-replicate n e)

    -- the run has an edge and a count, there is room for it, and its end fits
    pub laying_here : Here rs before i at offset (e, n)
    laying_here =
        let z = edge_positive (get_or rs i no_run) zeros_here.0 in
        let y = count_positive (get_or rs i no_run) zeros_here.0 in
        let a = number_here in
        let b = sum_here in
        let c = p.number in
        let d = p.sums in
        let r = p.room in
        let f = p.fits in
        record { edge = es; count = ns; some_edge = omega arith; some_count = omega arith; room = omega arith; fits = omega arith }

    pub laying_more : length table ≡ length before → (k : ℕ) (part : List OffsetSize) → k ≡ n → part ≡ offsets offset (replicate n e)
        → Laying rs before (i + 1) (at + n) (offset + e * n) (put_mid at k table part)
    laying_more same k part ks ps =
        let h = laying_here in
        let a = number_here in
        let b = sum_here in
        let c = p.number in
        let d = p.sums in
        let g : length part ≡ n = ap length ps ∙ length-offsets offset (replicate n e) ∙ length-replicate n e in
        let s : at ≤ length table = (let k = h.room in omega arith) in
        record {
          zeros = zeros_here.1;
          number = omega arith;
          sums = omega arith;
          written = ap (λ xs. xs ++ offsets (offset + e * n) (expand (drop (i + 1) rs))) (take-put_mid at k table part (at + n) (omega arith) s)
              ∙ append_assoc (take at table) part (offsets (offset + e * n) (expand (drop (i + 1) rs)))
              ∙ ap (λ xs. take at table ++ xs)
              (ap (λ xs. xs ++ offsets (offset + e * n) (expand (drop (i + 1) rs))) ps
              ∙ ap (λ m. offsets offset (replicate n e) ++ offsets (offset + m) (expand (drop (i + 1) rs))) (sym (total-replicate n e))
              ∙ sym (offsets-append offset (replicate n e) (expand (drop (i + 1) rs)))
              ∙ ap (offsets offset) (sym edges_here))
              ∙ p.written;
          kept = drop-put_mid at k table part (at + n) (omega arith) s (omega arith)
              ∙ sym (drop-drop n at table) ∙ ap (drop n) p.kept ∙ drop-drop n at before;
          room = p.room;
          fits = p.fits;
        }

  module _ (l : length rs ≤ i) where
    at_end : at ≡ length (expand rs)
    unfolding expand
    at_end = let h : length (expand (drop i rs)) ≡ 0 = at_drop_all (λ xs. length (expand xs)) rs i l in let q = p.number in omega arith

    pub laying_all : table ≡ offsets 0 (expand rs) ++ drop (length (offsets 0 (expand rs))) before
    unfolding expand offsets
    laying_all =
        let w : take at table ≡ offsets 0 (expand rs)
        = sym (append-nil (take at table)) ∙ ap (λ xs. take at table ++ xs) (sym (at_drop_all (λ xs. offsets offset (expand xs)) rs i l)) ∙ p.written in
        let n : at ≡ length (offsets 0 (expand rs)) = at_end ∙ sym (length-offsets 0 (expand rs)) in
        sym (take-append-drop at table) ∙ ap (λ xs. xs ++ drop at table) w ∙ ap (λ xs. offsets 0 (expand rs) ++ xs) p.kept
        ∙ ap (λ m. offsets 0 (expand rs) ++ drop m before) n

-- the law of an accepted call
pub laid_law : (rs : List Run) (n : ℕ) (before table : List OffsetSize) → n ≡ length (expand rs)
    → table ≡ offsets 0 (expand rs) ++ drop (length (offsets 0 (expand rs))) before → Laid rs (Ok n) table
laid_law rs n before table e q =
    let w : take n table ≡ offsets 0 (expand rs)
    = ap (take n) q ∙ take_at (offsets 0 (expand rs)) (drop (length (offsets 0 (expand rs))) before) n (length-offsets 0 (expand rs) ∙ sym e) in (
      ap (map (λ r. r.size)) w ∙ sizes_of_offsets 0 (expand rs),
      λ k h.
          let len = length-offsets 0 (expand rs) in
          ap (λ t. (get_or t k no_entry).offset) q
          ∙ ap (λ r. r.offset) (get_or_append_left (offsets 0 (expand rs)) (drop (length (offsets 0 (expand rs))) before) no_entry k (omega arith))
          ∙ offset_at 0 (expand rs) k (omega arith) ∙ zero-add (total (take k (expand rs))),
    )

pub part_length : (at n : ℕ) (table : List OffsetSize) → at + n ≤ length table → length (take (at + n - at) (drop at table)) ≡ n
part_length at n table h =
    let d = length-drop at table in
    let e : at + n - at ≡ n = omega arith in
    length-take-le (at + n - at) (drop at table) (omega arith) ∙ e

-- the same where a match took the run apart
pub matched_here : (rs : List Run) (before : List OffsetSize) (i at offset : ℕ) (table : List OffsetSize) → Laying rs before i at offset table → i < length rs
    → (r : Run) (p : ℕ × ℕ) → get_or rs i no_run ≡ r → p ≡ (run_edge r, run_count r) → Here rs before i at offset p
matched_here rs before i at offset table h l r p q e =
    laying_here rs before i at offset table h l p.0 p.1 (ap (λ x. x.0) e ∙ sym (ap run_edge q)) (ap (λ x. x.1) e ∙ sym (ap run_count q))

pub same_product : {a b e n : ℕ} → a ≡ e → b ≡ n → a * b ≡ e * n
same_product {b = b} {e = e} p q = ap (λ x. x * b) p ∙ ap (λ x. e * x) q
