use Rattle.std.specs.Prelude.{◌≡◌, ℕ, zero, suc, ◌+◌, ◌<◌, ◌≤◌, min, Bool, true, false, cond, not, ◌&&◌, ◌||◌, List, length, take, position, is_some, Some, None, Option, ◌==◌, nat_eq, nat_lt, slice_index_or, refl}
use Rattle.std.specs.List.{list_any, position_or_len}
use Rattle.std.specs.Option.{option_eq}
use Rattle.std.proofs.Common.{sym, ap, ◌∙◌, inl, inr, arith, add-one}
use Rattle.std.proofs.lemmas.Bool.{cases_eq, cases_lt, cases_Bool, both_ways, ne_eqb, eq-eqb, eqb-true, lt-ltb, le-ltb, false_from_ne_true}
use Rattle.std.proofs.lemmas.List.{get_or-take, get_or_default, length-take, take_all}
use Rattle.std.proofs.lemmas.List.Elements.{All-from_get_or}
use Rattle.std.proofs.lemmas.List.Folds.{Any-from_list_any, list_any_none, list_any_at, list_any_more}
use Rattle.std.proofs.lemmas.List.Quantifiers.{position-Some}
use Rattle.std.proofs.lemmas.List.Sums.{position_or_len_is, fails_before_first}
use Rattle.std.proofs.lemmas.Option.{none-some}
use Rattle.memory_stores.specs.declared.directory.Entry.{Entry}
use Rattle.stores.specs.Counts.{count, count_same, count_more, count_none}
use Rattle.memory_stores.specs.Entries.{entry, names, no_entry, slot_of, busy}

-- the first place in a list that passes
module _ {X : Type 0} (p : X → Bool) (xs : List X) (d : X) where
  pub position_first : (s : ℕ) → s < length xs → ((i : ℕ) → i < s → p (slice_index_or xs i d) ≡ false) → p (slice_index_or xs s d) ≡ true → position p xs ≡ Some s
  position_first s h before here =
      rw (position_or_len_is p xs s d (omega arith) before (λ l. here), lt-ltb s (length xs) h)

  pub position_nowhere : ((i : ℕ) → i < length xs → p (slice_index_or xs i d) ≡ false) → position p xs ≡ None
  position_nowhere h =
      rw (position_or_len_is p xs (length xs) d (omega arith) h (λ l. absurd (omega arith)), le-ltb (length xs) (length xs) (omega arith))

  pub position_absent : position p xs ≡ None → (i : ℕ) → i < length xs → p (slice_index_or xs i d) ≡ false
  position_absent e i h = elim (cases_lt (position_or_len p xs) (length xs)) [
    | inl l ↦ absurd (none-some (position_or_len p xs) (sym e ∙ rw (lt-ltb (position_or_len p xs) (length xs) l)))
    | inr o ↦ fails_before_first p xs i d (omega arith)
  ]

  -- whether there is one
  pub position_any : is_some (position p xs) ≡ list_any p xs
  position_any = elim (position p xs) as (λ o. position p xs ≡ o → is_some o ≡ list_any p xs) [
    | Some s ↦ λ e. let f = position-Some p xs s d e in sym (list_any_at p xs s d f.0 f.1)
    | None ↦ λ e. sym (list_any_none p xs (All-from_get_or (λ x. p x ≡ false) xs d (position_absent e)))
  ] refl

  -- the first of the first n is the first of all
  pub position_below : (n s : ℕ) → position p (take n xs) ≡ Some s → position p xs ≡ Some s
  position_below n s e =
      let f = position-Some p (take n xs) s d e in
      let short : length (take n xs) ≡ min n (length xs) = length-take n xs in
      position_first s (omega arith)
      (λ i h. ap p (sym (get_or-take n xs i d (omega arith))) ∙ f.2 i h)
      (ap p (sym (get_or-take n xs s d (omega arith))) ∙ f.1)

-- the chunk that an entry is used for
pub opt_is : (o : Option ℕ) (k : ℕ) → option_eq nat_eq o (Some k) ≡ true → o ≡ Some k
opt_is (Some j) k h = ap Some (eqb-true j k h)
opt_is None k h = absurd (both_ways false refl h)

pub opt_same : (o : Option ℕ) (k : ℕ) → o ≡ Some k → option_eq nat_eq o (Some k) ≡ true
opt_same o k e = rw e (eq-eqb k k refl)

-- a slot that is used for chunk k holds it if no lower one is used for it
module _ (es : List Entry) (l i k : ℕ) (inside : i < length es) (used : (entry es i).chunk ≡ Some k) where
  used_named : names k (entry es i) ≡ true
  used_named = opt_same _ k used

  lower_first : list_any (names k) (take i es) ≡ false → slot_of es k ≡ Some i
  lower_first f = position_first (names k) es no_entry i inside
      (λ j h. false_from_ne_true _ (λ t. both_ways _ f (list_any_at (names k) (take i es) j no_entry (omega (arith, length-take i es)) (ap (names k) (get_or-take i es j no_entry h) ∙ t))))
      used_named

  lower_other : list_any (names k) (take i es) ≡ true → option_eq nat_eq (slot_of es k) (Some i) ≡ false
  lower_other t = false_from_ne_true _ (λ same.
      let first = position-Some (names k) es i no_entry (opt_is _ i same) in
      let (j, e, within, at, passes) = Any-from_list_any (names k) (take i es) t in
      let short : j < i = omega (arith, length-take i es) in
      both_ways _ (first.2 j short) (ap (names k) (sym (get_or-take i es j no_entry short) ∙ get_or_default (take i es) j no_entry e within ∙ at) ∙ passes))

  pub busy_lower : k < l → busy es l i ≡ not (list_any (names k) (take i es))
  busy_lower below = rw (used, lt-ltb k l below) (elim (cases_Bool (list_any (names k) (take i es))) [
    | inl t ↦ rw t (lower_other t)
    | inr f ↦ rw f (opt_same _ i (lower_first f))
  ])

or_false : (t : Bool) → (t || false) ≡ t
or_false true = refl
or_false false = refl

-- the chunks that the first n slots hold
named_upto : (es : List Entry) (l n : ℕ) → n ≤ length es → count (λ k. nat_lt k l && list_any (names k) (take n es)) l ≡ count (busy es l) n
unfolding count
named_upto es l zero h = count_none _ l (λ k b. rw (lt-ltb k l b))
named_upto es l (suc n) h =
    let e : Entry = entry es n in
    let f : ℕ → Bool = λ k. nat_lt k l && list_any (names k) (take n es) in
    let g : ℕ → Bool = λ k. nat_lt k l && list_any (names k) (take (suc n) es) in
    let inside : n < length es = omega arith in
    let ih : count f l ≡ count (busy es l) n = named_upto es l n (omega arith) in
    let more : (k : ℕ) → list_any (names k) (take (suc n) es) ≡ (list_any (names k) (take n es) || names k e) =
    λ k. rw (← add-one) (list_any_more (names k) es n no_entry inside) in
    let other : (k : ℕ) → names k e ≡ false → g k ≡ f k = λ k off. ap (λ t. nat_lt k l && t) (more k ∙ rw off (or_false _)) in
    let kept : busy es l n ≡ false → ((k : ℕ) → k < l → g k ≡ f k) → count g l ≡ count (busy es l) n + cond (busy es l n) 1 0 =
    λ off same. count_same g f l same ∙ ih ∙ rw off (omega arith) in
    elim e.chunk as (λ o. e.chunk ≡ o → count g l ≡ count (busy es l) n + cond (busy es l n) 1 0) [
      | None ↦ λ used. kept (rw used) (λ k b. other k (rw used))
      | Some c ↦ λ used. elim (cases_lt c l) [
        | inr o ↦ kept (rw (used, le-ltb c l o)) (λ k b. other k (rw used (ne_eqb c k (λ q. omega arith))))
        | inl b ↦
            let lower = busy_lower es l n c inside used b in
            elim (cases_Bool (list_any (names c) (take n es))) [
              | inl t ↦ kept (lower ∙ ap not t) (λ k h'. elim (cases_eq k c) [
                | inl q ↦ ap (λ r. nat_lt k l && r) (more k ∙ rw (q, t))
                | inr ne ↦ other k (rw used (ne_eqb c k (λ q. ne (sym q))))
              ])
              | inr fresh ↦
                  let on : busy es l n ≡ true = lower ∙ ap not fresh in
                  count_same g (λ k. cond (k == c) true (f k)) l (λ k h'. elim (cases_eq k c) [
                    | inl q ↦ ap (λ r. nat_lt k l && r) (more k) ∙ rw (lt-ltb k l h', q, eq-eqb c c refl, used_named es l n c inside used, fresh)
                    | inr ne ↦ rw (ne_eqb k c ne) (other k (rw used (ne_eqb c k (λ q. ne (sym q)))))
                  ])
                  ∙ count_more f c l b (rw (lt-ltb c l b, fresh))
                  ∙ rw (on, ih)
            ]
      ]
    ] refl

pub named_count : (es : List Entry) (l : ℕ) → count (λ k. nat_lt k l && is_some (slot_of es k)) l ≡ count (busy es l) (length es)
named_count es l =
    count_same _ _ l (λ k h. ap (λ b. nat_lt k l && b) (position_any (names k) es no_entry ∙ ap (list_any (names k)) (sym (take_all (length es) es (omega arith)))))
    ∙ named_upto es l (length es) (omega arith)
