use Rattle.std.proofs.Common.{◌≡◌, ℕ, ◌+◌, ◌*◌, ◌<◌, ◌≤◌, Bool, true, false, cond, not, ◌&&◌, eqb, ltb, List, ◌++◌, length, get_or, take, drop, set, replicate, count_by, Ok, sym, refl, ap, ◌∙◌, inl, inr, arith, length-set, get_or-set_other, get_or-set_same}
use lib.ListN.{length-replicate, get_or-replicate}
use borrow.Rule.Slice.PartMut.{put_mid}
use Rattle.std.proofs.lemmas.List.{get_or_append_left}
use Rattle.std.proofs.lemmas.Bool.{cases_Bool, cases_lt, cases_eq, lt-ltb, le-ltb, ne_eqb, eq-eqb}
use Rattle.stores.specs.Counts.{count, count_same, count_missing}
use Rattle.stores.specs.Held.{Held, free, put_answer, after_put, after_erase}
use Rattle.stores.proofs.HeldLaws.{same_held}
use Rattle.memory_stores.specs.Extents.{capped, flat_limit, flat_fit, flat_marks}
use Rattle.memory_stores.specs.Laid.{laid}
use Rattle.memory_stores.specs.Meanings.{flat_held, new_flat, with_chunk, room_answer}
use Rattle.memory_stores.proofs.Counting.{unset_and_set}
use Rattle.memory_stores.proofs.Rows.{row_below, length-part, part_in, part_out, part_set}
use Rattle.memory_stores.proofs.Writing.{rows_apart, laid_chunk, laid_put, laid_erase, put_done, after_erase_done}

module _ {E : Type 0} (v : E) (xs : List E) (ms : List Bool) (w : ℕ) where
  abbrev pub flat_n : ℕ
  flat_n = flat_limit w (length xs) (length ms)

  abbrev H : Held E
  H = flat_held v xs ms w

  -- by its lengths
  flat_at : (ys : List E) (ns : List Bool) → length ys ≡ length xs → length ns ≡ length ms → flat_held v ys ns w ≡ laid flat_n (capped w) flat_n v (λ k. get_or ns k false) (λ k. k) ys
  flat_at ys ns e f = ap (λ j. laid j (capped w) j v (λ k. get_or ns k false) (λ k. k) ys) (ap (λ a. flat_limit w a (length ns)) e ∙ ap (λ b. flat_limit w (length xs) b) f)

  -- no mark below the limit is set
  pub flat_empty : (n : ℕ) (rest : List Bool) → flat_n ≤ n → ms ≡ replicate n false ++ rest → H ≡ new_flat v (length xs) (length ms) w
  flat_empty n rest few e =
      let off : (k : ℕ) → k < flat_n → get_or ms k false ≡ false = λ k i.
      ap (λ l. get_or l k false) e
      ∙ get_or_append_left (replicate n false) rest false k (omega (arith, length-replicate n false))
      ∙ get_or-replicate n k false false (omega arith) in
      same_held _ _ refl refl refl refl
      (λ k. elim (cases_lt k flat_n) [ inl i ↦ rw (lt-ltb k flat_n i, off k i) | inr o ↦ rw (le-ltb k flat_n o) ])
      (λ k q. elim (cases_lt k flat_n) [ inl i ↦ rw (lt-ltb k flat_n i, off k i) | inr o ↦ rw (le-ltb k flat_n o) ])

  pub flat_free : (r : ℕ) → r ≡ count_by not (take flat_n ms) → r ≡ free H
  flat_free r e =
      let same : count (λ k. ltb k flat_n && get_or ms k false) flat_n ≡ count (λ k. get_or ms k false) flat_n = count_same _ _ flat_n (λ k h. rw (lt-ltb k flat_n h)) in
      omega (arith, same, e, unset_and_set ms flat_n (flat_marks w (length xs) (length ms)))

  module _ (c : ℕ) (a : c < flat_n) where
    marked : (t : Bool) (k : ℕ) → k < flat_n → get_or (set ms c t) k false ≡ cond (eqb k c) t (get_or ms k false)
    marked t k h = elim (cases_eq k c) [
      | inl e ↦ rw (eq-eqb k c e, e) (get_or-set_same ms c t false (omega (arith, flat_marks w (length xs) (length ms))))
      | inr ne ↦ rw (ne_eqb k c ne) (get_or-set_other ms c k t false ne)
    ]

    pub flat_row : c * capped w + capped w ≤ length xs
    flat_row = row_below flat_n (capped w) (length xs) c (flat_fit w (length xs) (length ms)) a

    -- an absent chunk is made present, and its row put to fill
    pub flat_chunk : get_or ms c false ≡ false → (i k : ℕ) (ys : List E) → i ≡ c * capped w → k ≡ capped w → ys ≡ replicate k v
        → flat_held v (put_mid i k xs ys) (set ms c true) w ≡ with_chunk H c
    flat_chunk t i k ys e f y =
        let W : ℕ = capped w in
        let fits : i + k ≤ length xs = omega (arith, e, f, flat_row) in
        let long : length ys ≡ k = ap length y ∙ length-replicate k v in
        flat_at (put_mid i k xs ys) (set ms c true) (length-part i k xs fits ys long) (length-set ms c true)
        ∙ laid_chunk flat_n W flat_n v (λ j. get_or ms j false) (λ j. j) xs c a (λ j. get_or (set ms c true) j false) (λ j. j) (put_mid i k xs ys) t (marked true)
        (λ q j. ap (λ n. get_or (put_mid i k xs ys) (n + q) v) (sym e) ∙ part_in i k xs fits ys q v long (omega arith) ∙ ap (λ zs. get_or zs q v) y ∙ get_or-replicate k q v v (omega arith))
        (λ n h ne m q j. part_out i k xs fits ys (n * W + q) v long (λ r l g. rows_apart W n q c r j (omega arith) ne (g ∙ ap (λ x. x + r) e)))

    -- a chunk below the limit always has room
    pub flat_room : Ok tt ≡ room_answer H c
    flat_room = elim (cases_Bool (get_or ms c false)) [
      | inl t ↦ rw (lt-ltb c flat_n a, t)
      | inr f ↦
          let some : count (λ k. ltb k flat_n && get_or ms k false) flat_n < flat_n = count_missing _ c flat_n a (rw (lt-ltb c flat_n a, f)) in
          let left : 0 < free H = omega arith in
          rw (lt-ltb c flat_n a, f, lt-ltb 0 (free H) left)
    ]

    pub flat_erase : flat_held v xs (set ms c false) w ≡ after_erase H c
    flat_erase =
        flat_at xs (set ms c false) refl (length-set ms c false)
        ∙ laid_erase flat_n (capped w) flat_n v (λ k. get_or ms k false) (λ k. k) xs c a (λ k. get_or (set ms c false) k false) (λ k. k) (marked false) (λ k h ne u. refl)
        ∙ sym (after_erase_done H c (get_or ms c false) (rw (lt-ltb c flat_n a)))

  -- one value is set, of a chunk that h was given
  module _ (h : Held E) (c p : ℕ) (e : H ≡ with_chunk h c) (a : c < h.limit) (b : p < h.width) where
    pub given_below : c < flat_n
    given_below = omega (arith, ap (λ k. k.limit) e)

    given_place : p < capped w
    given_place = omega (arith, ap (λ k. k.width) e)

    given_mark : get_or ms c false ≡ true
    given_mark =
        let t : (ltb c flat_n && get_or ms c false) ≡ true = ap (λ k. k.present c) e ∙ rw (eq-eqb c c refl) in
        rw (lt-ltb c flat_n given_below) at t

    pub flat_put : (val : E) (i k : ℕ) → i ≡ c * capped w → k ≡ capped w → Ok tt ≡ put_answer h c p
        → flat_held v (put_mid i k xs (set (take k (drop i xs)) p val)) ms w ≡ after_put h c p val
    flat_put val i k f g ok =
        let fits : i + k ≤ length xs = omega (arith, f, g, flat_row c given_below) in
        put_done h c p val H _ ok e
        (ap (λ ys. flat_held v ys ms w) (part_set i k xs fits p val (omega (arith, given_place)))
        ∙ flat_at (set xs (i + p) val) ms (length-set xs (i + p) val) refl
        ∙ laid_put flat_n (capped w) flat_n v (λ j. get_or ms j false) (λ j. j) xs c given_below p val (i + p) given_place given_mark (λ j l ne u. ne) (ap (λ j. j + p) f) (omega (arith, given_place)))
