use Rattle.std.proofs.Common.{◌≡◌, ℕ, ◌<◌, ◌≤◌, cond, ltb, List, Option, Some, None, is_some, length, get_or, set, Ok, Err, refl, ap, ◌∙◌, inl, inr, arith, get_or-set_other, get_or-set_same}
use Rattle.std.proofs.lemmas.Bool.{cases_lt, cases_eq, lt-ltb, le-ltb, ne_eqb, eq-eqb}
use Rattle.stores.specs.Counts.{count}
use Rattle.stores.specs.Held.{free, get_answer, with_value, put_answer, after_put, if_accepted, no_slot}
use Rattle.stores.proofs.HeldLaws.{same_held}
use Rattle.own_store.specs.declared.moisture.Moisture.{Moisture}
use Rattle.own_store.specs.Single.{single_held, readings, unmeasured}

pub free_is : (o : Option (List Moisture)) → free (single_held o) ≡ cond (is_some o) 0 1
unfolding count
free_is (Some xs) = refl
free_is None = refl

module _ (o : Option (List Moisture)) (c p : ℕ) (a : c < 1) (b : p < 4) where
  pub single_get : Ok (get_or (readings o) p unmeasured) ≡ get_answer (single_held o) c p
  single_get = rw (lt-ltb c 1 a, lt-ltb p 4 b)

  pub put_accepted : Ok tt ≡ put_answer (single_held o) c p
  unfolding count
  put_accepted = rw (lt-ltb c 1 a, lt-ltb p 4 b) (elim o as (λ r. Ok (tt {0}) ≡ cond (is_some r) (Ok (tt {0})) (cond (ltb 0 (free (single_held r))) (Ok (tt {0})) (Err no_slot))) [ Some xs ↦ refl | None ↦ refl ])

  past : (k : ℕ) → (k ≡ c → ⊥) → 1 ≤ k
  past k ne = elim (cases_lt k 1) [ inl i ↦ absurd (ne (omega arith)) | inr r ↦ r ]

  -- one value is set
  pub single_put : (v : Moisture) → length (readings o) ≡ 4 → single_held (Some (set (readings o) p v)) ≡ after_put (single_held o) c p v
  single_put v long =
      same_held (single_held (Some (set (readings o) p v))) (with_value (single_held o) c p v) refl refl refl refl
      (λ k. elim (cases_eq k c) [
        | inl e ↦ rw (e, eq-eqb c c refl, lt-ltb c 1 a)
        | inr ne ↦ rw (ne_eqb k c ne, le-ltb k 1 (past k ne))
      ])
      (λ k q. elim (cases_eq k c) [
        | inr ne ↦ rw (ne_eqb k c ne, le-ltb k 1 (past k ne))
        | inl e ↦ rw (e, eq-eqb c c refl, lt-ltb c 1 a) (elim (cases_eq q p) [
          | inl f ↦ rw (f, eq-eqb p p refl, lt-ltb p 4 b) (get_or-set_same (readings o) p v unmeasured (omega arith))
          | inr ne ↦ rw (ne_eqb q p ne, get_or-set_other (readings o) p q v unmeasured ne)
        ])
      ])
      ∙ ap (λ r. if_accepted r (with_value (single_held o) c p v) (single_held o)) put_accepted
