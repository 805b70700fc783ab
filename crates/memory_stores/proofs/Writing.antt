use Rattle.std.proofs.Common.{◌≡◌, ℕ, ◌+◌, ◌*◌, ◌/◌, ◌<◌, Bool, true, false, cond, ◌&&◌, eqb, List, length, get_or, set, Ok, Err, sym, refl, ap, ◌∙◌, inl, inr, arith, get_or-set_other, get_or-set_same}
use Rattle.std.proofs.lemmas.Bool.{cases_lt, cases_eq, lt-ltb, le-ltb, ne_eqb, eq-eqb}
use Rattle.std.proofs.lemmas.Nat.{div-mul-add}
use Rattle.stores.specs.Held.{Held, with_value, without, put_answer, after_put, present_answer, out_of_range, erase_answer, after_erase, if_accepted}
use Rattle.stores.proofs.HeldLaws.{same_held}
use Rattle.memory_stores.specs.Laid.{laid}
use Rattle.memory_stores.specs.Meanings.{with_chunk, room_answer}

-- different rows, or different places, are different cells
pub rows_apart : (w a p b q : ℕ) → p < w → q < w → (a ≡ b → ⊥) → a * w + p ≡ b * w + q → ⊥
rows_apart w a p b q h k ne e = ne (sym (div-mul-add a w p h) ∙ ap (λ n. n / w) e ∙ div-mul-add b w q k)

both_off : (t : Bool) → (t && false) ≡ false
both_off true = refl
both_off false = refl

cond_same : {E : Type 0} (t : Bool) (x y v : E) → (t ≡ true → x ≡ y) → cond (t && true) x v ≡ cond (t && true) y v
cond_same true x y v h = h refl
cond_same false x y v h = refl

module _ {E : Type 0} (l w s : ℕ) (v : E) (m : ℕ → Bool) (σ : ℕ → ℕ) (xs : List E) (c : ℕ) (a : c < l) where
  -- an absent chunk is made present, in a row that reads as fill
  pub laid_chunk : (m' : ℕ → Bool) (σ' : ℕ → ℕ) (xs' : List E) → m c ≡ false
      → ((k : ℕ) → k < l → m' k ≡ cond (eqb k c) true (m k))
      → ((q : ℕ) → q < w → get_or xs' (σ' c * w + q) v ≡ v)
      → ((k : ℕ) → k < l → (k ≡ c → ⊥) → m k ≡ true → (q : ℕ) → q < w → get_or xs' (σ' k * w + q) v ≡ get_or xs (σ k * w + q) v)
      → laid l w s v m' σ' xs' ≡ with_chunk (laid l w s v m σ xs) c
  laid_chunk m' σ' xs' t marks here there = same_held _ _ refl refl refl refl
      (λ k. elim (cases_lt k l) [
        | inl i ↦ rw (lt-ltb k l i, marks k i)
        | inr o ↦ let ne : k ≡ c → ⊥ = λ e. omega arith in rw (le-ltb k l o, ne_eqb k c ne)
      ])
      (λ k q. elim (cases_lt k l) [
        | inr o ↦ rw (le-ltb k l o)
        | inl i ↦ elim (cases_lt q w) [
          | inr o ↦ rw (le-ltb q w o) (simp both_off)
          | inl j ↦ elim (cases_eq k c) [
            | inl e ↦ rw e (let mc : m' c ≡ true = marks c a ∙ rw (eq-eqb c c refl) in rw (lt-ltb c l a, lt-ltb q w j, mc, t) (here q j))
            | inr ne ↦ let mk : m' k ≡ m k = marks k i ∙ rw (ne_eqb k c ne) in
                rw (lt-ltb k l i, lt-ltb q w j, mk) (cond_same (m k) _ _ v (λ t'. there k i ne t' q j))
          ]
        ]
      ])

  -- one value of a present chunk is set
  pub laid_put : (p : ℕ) (val : E) (i : ℕ) → p < w → m c ≡ true → ((k : ℕ) → k < l → (k ≡ c → ⊥) → m k ≡ true → σ k ≡ σ c → ⊥) → i ≡ σ c * w + p → i < length xs
      → laid l w s v m σ (set xs i val) ≡ with_value (laid l w s v m σ xs) c p val
  laid_put p val i b t apart e h = same_held _ _ refl refl refl refl
      (λ k. elim (cases_eq k c) [
        | inl f ↦ rw (f, lt-ltb c l a, eq-eqb c c refl, t)
        | inr ne ↦ rw (ne_eqb k c ne)
      ])
      (λ k q. elim (cases_lt k l) [
        | inr o ↦ let ne : k ≡ c → ⊥ = λ f. omega arith in rw (le-ltb k l o, ne_eqb k c ne)
        | inl i' ↦ elim (cases_lt q w) [
          | inr o ↦ let ne : q ≡ p → ⊥ = λ f. omega arith in rw (le-ltb q w o, ne_eqb q p ne) (simp both_off)
          | inl j ↦ elim (cases_eq k c) [
            | inl f ↦ rw (f, lt-ltb c l a, lt-ltb q w j, eq-eqb c c refl, t) (elim (cases_eq q p) [
              | inl g ↦ rw (g, eq-eqb p p refl, ← e) (get_or-set_same xs i val v h)
              | inr ne ↦ rw (ne_eqb q p ne) (get_or-set_other xs i (σ c * w + q) val v (λ g. ne (omega arith)))
            ])
            | inr ne ↦ rw (lt-ltb k l i', lt-ltb q w j, ne_eqb k c ne)
                (cond_same (m k) _ _ v (λ t'. get_or-set_other xs i (σ k * w + q) val v (λ f. rows_apart w (σ k) q (σ c) p j b (apart k i' ne t') (f ∙ e))))
          ]
        ]
      ])

  -- chunk c is let go
  pub laid_erase : (m' : ℕ → Bool) (σ' : ℕ → ℕ) → ((k : ℕ) → k < l → m' k ≡ cond (eqb k c) false (m k))
      → ((k : ℕ) → k < l → (k ≡ c → ⊥) → m k ≡ true → σ' k ≡ σ k)
      → laid l w s v m' σ' xs ≡ without (laid l w s v m σ xs) c
  laid_erase m' σ' marks slots = same_held _ _ refl refl refl refl
      (λ k. elim (cases_lt k l) [
        | inl i ↦ rw (lt-ltb k l i, marks k i)
        | inr o ↦ let ne : k ≡ c → ⊥ = λ e. omega arith in rw (le-ltb k l o, ne_eqb k c ne)
      ])
      (λ k q. elim (cases_lt k l) [
        | inr o ↦ let ne : k ≡ c → ⊥ = λ e. omega arith in rw (le-ltb k l o, ne_eqb k c ne)
        | inl i ↦ elim (cases_lt q w) [
          | inr o ↦ rw (le-ltb q w o) (simp both_off (elim (eqb k c) as (λ t. v ≡ cond t v v) [ true ↦ refl | false ↦ refl ]))
          | inl j ↦ elim (cases_eq k c) [
            | inl e ↦ rw e (let mc : m' c ≡ false = marks c a ∙ rw (eq-eqb c c refl) in rw (lt-ltb c l a, lt-ltb q w j, eq-eqb c c refl, mc))
            | inr ne ↦ let mk : m' k ≡ m k = marks k i ∙ rw (ne_eqb k c ne) in
                rw (lt-ltb k l i, lt-ltb q w j, ne_eqb k c ne, mk) (cond_same (m k) _ _ v (λ t. ap (λ n. get_or xs (n * w + q) v) (slots k i ne t)))
          ]
        ]
      ])

module _ {E : Type 0} (h : Held E) (c : ℕ) where
  value_in_chunk : (p : ℕ) (val : E) → with_value (with_chunk h c) c p val ≡ with_value h c p val
  value_in_chunk p val = same_held _ _ refl refl refl refl
      (λ k. elim (eqb k c) as (λ t. cond t true (cond t true (h.present k)) ≡ cond t true (h.present k)) [ true ↦ refl | false ↦ refl ])
      (λ k q. refl)

  pub put_in_room : (p : ℕ) → c < h.limit → p < h.width → Ok tt ≡ room_answer h c → Ok tt ≡ put_answer h c p
  put_in_room p a b e = rw (lt-ltb c h.limit a, lt-ltb p h.width b) e

  -- a chunk is made present, then one value of it is set
  pub put_done : (p : ℕ) (val : E) (with' done : Held E) → Ok tt ≡ put_answer h c p → with' ≡ with_chunk h c → done ≡ with_value with' c p val
      → done ≡ after_put h c p val
  put_done p val with' done ok e f =
      f ∙ ap (λ k. with_value k c p val) e ∙ value_in_chunk p val ∙ ap (λ r. if_accepted r (with_value h c p val) h) ok

  -- an answer whether a chunk is present tells that it is below the limit
  pub answered_below : (b : Bool) → Ok b ≡ present_answer h c → c < h.limit
  answered_below b e = elim (cases_lt c h.limit) [
    | inl i ↦ i
    | inr o ↦ let wrong : Ok b ≡ Err out_of_range = rw (le-ltb c h.limit o) at e in cc
  ]

  pub after_erase_done : (b : Bool) → Ok b ≡ erase_answer h c → after_erase h c ≡ without h c
  after_erase_done b e = ap (λ r. if_accepted r (without h c) h) (sym e)
