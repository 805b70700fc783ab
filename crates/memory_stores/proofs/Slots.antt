use Rattle.std.proofs.Common.{◌≡◌, ℕ, zero, suc, ◌+◌, ◌-◌, ◌<◌, ◌≤◌, Bool, true, false, ◌||◌, List, ◌++◌, length, take, drop, set, is_some, Some, None, Option, position, unwrap_or, sym, refl, ap, ◌∙◌, inl, inr, arith, length-set, get_or, get_or-set_other, get_or-set_same}
use Rattle.std.specs.List.{find, list_any, range_with_len}
use Rattle.std.proofs.lemmas.List.{get_or-append_right, get_or-drop, get_or-map, get_or_default, length-map, length-take-le, take-set}
use Rattle.std.proofs.lemmas.List.Folds.{list_any_more}
use Rattle.std.proofs.lemmas.List.Edits.{map_over_more}
use Rattle.std.proofs.lemmas.List.Quantifiers.{position-Some}
use Rattle.std.proofs.lemmas.Option.{same_Some, none-some}
use Rattle.std.proofs.lemmas.Bool.{cases_Bool, cases_eq, both_ways, lt-ltb, ne_eqb, eq-eqb, not-true, not-false}
use Rattle.memory_stores.specs.declared.directory.Entry.{Entry}
use Rattle.memory_stores.specs.Entries.{entry, names, no_entry, slot_of, busy, vacant, let_go, released}
use Rattle.memory_stores.specs.Named.{position_first, position_nowhere, position_absent, position_any, position_below, opt_is, opt_same, busy_lower}

pub some_of : (o : Option ℕ) → is_some o ≡ true → o ≡ Some (unwrap_or o 0)
some_of (Some n) e = refl
some_of None e = absurd (both_ways false refl e)

-- equal tests, equal places
position_same : {X : Type 0} (p : X → Bool) (xs ys : List X) (d : X) → length ys ≡ length xs → ((i : ℕ) → i < length xs → p (get_or ys i d) ≡ p (get_or xs i d)) → position p ys ≡ position p xs
position_same p xs ys d e h = elim (position p xs) as (λ o. position p xs ≡ o → position p ys ≡ o) [
  | Some s ↦ λ at.
      let f = position-Some p xs s d at in
      position_first p ys d s (omega arith) (λ i l. h i (omega arith) ∙ f.2 i l) (h s f.0 ∙ f.1)
  | None ↦ λ at. position_nowhere p ys d (λ i l. h i (omega arith) ∙ position_absent p xs d at i (omega arith))
] refl

-- the first number from a on that passes
range_found : (p : ℕ → Bool) (n a s : ℕ) → find p (range_with_len a n) ≡ Some s → (s < a + n) × (p s ≡ true)
range_found p zero a s e = absurd (none-some s e)
range_found p (suc n) a s e = elim (cases_Bool (p a)) [
  | inl t ↦ let at : a ≡ s = same_Some a s (rw t at e) in (omega arith, rw (sym at) t)
  | inr f ↦ let ih = range_found p n (a + 1) s (rw f at e) in (omega arith, ih.1)
]

range_none : (p : ℕ → Bool) (n a : ℕ) → find p (range_with_len a n) ≡ None → (i : ℕ) → a ≤ i → i < a + n → p i ≡ false
range_none p zero a e i l h = absurd (omega arith)
range_none p (suc n) a e i l h = elim (cases_Bool (p a)) [
  | inl t ↦ absurd (none-some a (sym (rw t at e)))
  | inr f ↦ elim (cases_eq i a) [
    | inl at ↦ rw at f
    | inr ne ↦ range_none p n (a + 1) (rw f at e) i (omega arith) (omega arith)
  ]
]

module _ (es : List Entry) (l : ℕ) where
  pub vacant_found : (s : ℕ) → vacant es l ≡ Some s → (s < length es) × (busy es l s ≡ false)
  vacant_found s e = let f = range_found _ (length es) 0 s e in (omega arith, not-true _ f.1)

  pub vacant_full : vacant es l ≡ None → (i : ℕ) → i < length es → busy es l i ≡ true
  vacant_full e i h = not-false _ (range_none _ (length es) 0 e i (omega arith) (omega arith))

  -- the slot of a chunk below the limit holds it
  pub slot_busy : (k s : ℕ) → slot_of es k ≡ Some s → k < l → busy es l s ≡ true
  slot_busy k s e b =
      let used = opt_is (entry es s).chunk k (position-Some (names k) es s no_entry e).1 in
      rw (used, lt-ltb k l b) (opt_same (slot_of es k) s e)

  -- a slot that holds no chunk is taken for chunk c
  module _ (c s : ℕ) (inside : s < length es) (off : busy es l s ≡ false) where
    abbrev pub taken : List Entry
    taken = set es s (record { chunk = Some c })

    pub taken_slot : slot_of es c ≡ None → slot_of taken c ≡ Some s
    taken_slot none =
        position_first (names c) taken no_entry s (omega (arith, length-set es s (record { chunk = Some c })))
        (λ i h. ap (names c) (get_or-set_other es s i _ no_entry (λ q. omega arith)) ∙ position_absent (names c) es no_entry none i (omega arith))
        (ap (names c) (get_or-set_same es s _ no_entry inside) ∙ eq-eqb c c refl)

    pub taken_same : (k : ℕ) → k < l → (k ≡ c → ⊥) → slot_of taken k ≡ slot_of es k
    taken_same k b ne = elim (cases_Bool (names k (entry es s))) [
      | inr f ↦ position_same (names k) es taken no_entry (length-set es s (record { chunk = Some c })) (λ i h. elim (cases_eq i s) [
        | inl q ↦ rw q (ap (names k) (get_or-set_same es s _ no_entry inside) ∙ ne_eqb c k (λ r. ne (sym r)) ∙ sym f)
        | inr other ↦ ap (names k) (get_or-set_other es s i _ no_entry other)
      ])
      | inl t ↦
          let lower = not-false _ (sym (busy_lower es l s k inside (opt_is (entry es s).chunk k t) b) ∙ off) in
          let at = some_of (slot_of (take s es) k) (position_any (names k) (take s es) no_entry ∙ lower) in
          position_below (names k) taken no_entry s _ (ap (λ r. slot_of r k) (take-set es s (record { chunk = Some c })) ∙ at)
          ∙ sym (position_below (names k) es no_entry s _ at)
    ]

let_go_off : (c : ℕ) (e : Entry) → names c (let_go c e) ≡ false
let_go_off c e = elim (cases_Bool (names c e)) [ inl t ↦ rw t | inr f ↦ rw (f, f) ]

let_go_other : (c k : ℕ) (e : Entry) → (k ≡ c → ⊥) → names k (let_go c e) ≡ names k e
let_go_other c k e ne = elim (cases_Bool (names c e)) [
  | inl t ↦ let used = opt_is e.chunk c t in rw (t, used, ne_eqb c k (λ q. ne (sym q)))
  | inr f ↦ rw f
]

module _ (es : List Entry) (c : ℕ) where
  pub released_here : slot_of (released c es) c ≡ None
  released_here = position_nowhere (names c) (released c es) no_entry
      (λ i h. ap (names c) (get_or-map (let_go c) es i no_entry no_entry (omega (arith, length-map es (let_go c)))) ∙ let_go_off c (entry es i))

  pub released_other : (k : ℕ) → (k ≡ c → ⊥) → slot_of (released c es) k ≡ slot_of es k
  released_other k ne = position_same (names k) es (released c es) no_entry (length-map es (let_go c))
      (λ i h. ap (names k) (get_or-map (let_go c) es i no_entry no_entry h) ∙ let_go_other c k (entry es i) ne)

-- one turn of the loop that lets chunk c go: entry i is now y
pub let_go_turn : (c : ℕ) (xs ys : List Entry) (i : ℕ) (y : Entry) → i < length xs → length ys ≡ length xs → ys ≡ released c (take i xs) ++ drop i xs
    → let_go c (entry ys i) ≡ y → set ys i y ≡ released c (take (i + 1) xs) ++ drop (i + 1) xs
let_go_turn c xs ys i y h long so_far e =
    ap (set ys i) (sym e) ∙ map_over_more (let_go c) xs ys i (entry ys i) h so_far (get_or_default ys i no_entry (entry ys i) (omega arith))

-- whether one of the first entries is used for chunk c, one entry on in the same loop
pub found_turn : (c : ℕ) (xs ys : List Entry) (i : ℕ) → i < length xs → ys ≡ released c (take i xs) ++ drop i xs
    → list_any (names c) (take (i + 1) xs) ≡ (list_any (names c) (take i xs) || names c (entry ys i))
found_turn c xs ys i h so_far =
    let long : length (released c (take i xs)) ≡ i = length-map (take i xs) (let_go c) ∙ length-take-le i xs (omega arith) in
    let here : entry ys i ≡ entry xs i =
    ap (λ zs. entry zs i) so_far
    ∙ get_or-append_right (released c (take i xs)) (drop i xs) i i no_entry long (omega arith)
    ∙ get_or-drop i xs (i - i) no_entry
    ∙ ap (entry xs) (omega arith) in
    list_any_more (names c) xs i no_entry h ∙ ap (λ e. list_any (names c) (take i xs) || names c e) (sym here)
