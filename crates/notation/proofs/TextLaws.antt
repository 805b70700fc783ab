use Rattle.std.proofs.Common.{◌≡◌, ℕ, suc, ◌<◌, false, eqb, List, [], ◌∷◌, ◌++◌, length, get_or, IfSome, IfOk, Some, None, Ok, Err, Option, Result, sym, refl, ap, ◌∙◌, subst, arith, Bor}
use Rattle.std.specs.Option.{option_map}
use Rattle.std.specs.Str.Iter.{LacksByte}
use Rattle.std.specs.List.{join_with_byte, AllByRecursion}
use Rattle.std.specs.Iterator.Runs.{Run, AllItems}
use Rattle.std.proofs.lemmas.Bool.{cond-true, cond-false, eq-eqb, ne_eqb}
use Rattle.notation.specs.Texts.{before, after, onto_first, parts_at, texts}

lacks_head : (m c : ℕ) (cs : List ℕ) → LacksByte m (c ∷ cs) → eqb c m ≡ false
lacks_head m c cs l = ne_eqb c m (l 0 (omega arith))

pub lacks_tail : (m c : ℕ) (cs : List ℕ) → LacksByte m (c ∷ cs) → LacksByte m cs
lacks_tail m c cs l = λ k h. l (suc k) (omega arith)

-- a text without the mark
module _ (m : ℕ) where
  pub after_none : (xs : List ℕ) → LacksByte m xs → after m xs ≡ None
  unfolding after
  after_none [] l = refl
  after_none (c ∷ cs) l = cond-false (eqb c m) _ _ (lacks_head m c cs l) ∙ after_none cs (lacks_tail m c cs l)

  pub parts_none : (xs : List ℕ) → LacksByte m xs → parts_at m xs ≡ xs ∷ []
  unfolding parts_at
  parts_none [] l = refl
  parts_none (c ∷ cs) l = cond-false (eqb c m) _ _ (lacks_head m c cs l) ∙ ap (onto_first c) (parts_none cs (lacks_tail m c cs l))

  -- a text with a mark, after xs, which has none
  pub before_mark : (xs ys : List ℕ) → LacksByte m xs → before m (xs ++ m ∷ ys) ≡ xs
  unfolding before
  before_mark [] ys l = cond-true (eqb m m) _ _ (eq-eqb m m refl)
  before_mark (c ∷ cs) ys l = cond-false (eqb c m) _ _ (lacks_head m c cs l) ∙ ap (λ zs. c ∷ zs) (before_mark cs ys (lacks_tail m c cs l))

  pub after_mark : (xs ys : List ℕ) → LacksByte m xs → after m (xs ++ m ∷ ys) ≡ Some ys
  unfolding after
  after_mark [] ys l = cond-true (eqb m m) _ _ (eq-eqb m m refl)
  after_mark (c ∷ cs) ys l = cond-false (eqb c m) _ _ (lacks_head m c cs l) ∙ after_mark cs ys (lacks_tail m c cs l)

  parts_mark : (xs ys : List ℕ) → LacksByte m xs → parts_at m (xs ++ m ∷ ys) ≡ xs ∷ parts_at m ys
  unfolding parts_at
  parts_mark [] ys l = cond-true (eqb m m) _ _ (eq-eqb m m refl)
  parts_mark (c ∷ cs) ys l = cond-false (eqb c m) _ _ (lacks_head m c cs l) ∙ ap (onto_first c) (parts_mark cs ys (lacks_tail m c cs l))

  abbrev pub AllLack : List (List ℕ) → Type 0
  AllLack = AllByRecursion (LacksByte m)

  -- parts that lack the mark, put together with it, are cut apart again
  pub parts_rejoined : (p : List ℕ) (ps : List (List ℕ)) → AllLack (p ∷ ps) → parts_at m (join_with_byte m (p ∷ ps)) ≡ p ∷ ps
  parts_rejoined p [] l = parts_none p l.0
  parts_rejoined p (q ∷ ps) l = parts_mark p (join_with_byte m (q ∷ ps)) l.0 ∙ ap (λ qs. p ∷ qs) (parts_rejoined q ps l.1)

  pub all_lack : (xs : List (Bor (List ℕ))) → ((k : ℕ) (d : Bor (List ℕ)) → k < length xs → LacksByte m (get_or xs k d).now) → AllLack (texts xs)
  all_lack [] h = tt
  all_lack (x ∷ xs) h = (h 0 x (omega arith), all_lack xs (λ k d l. h (suc k) d (omega arith)))

  pub parts_of : (text : List ℕ) (xs : List (Bor (List ℕ))) → 0 < length xs → ((k : ℕ) (d : Bor (List ℕ)) → k < length xs → LacksByte m (get_or xs k d).now)
      → text ≡ join_with_byte m (texts xs) → texts xs ≡ parts_at m text
  parts_of text [] some h e = absurd (let n : ⊥ = omega arith in n)
  parts_of text (x ∷ xs) some h e = sym (ap (parts_at m) e ∙ parts_rejoined x.now (texts xs) (all_lack (x ∷ xs) h))

-- what holds of each item of a run holds at each place of its list
pub each_at : {A S : Type 0} {steps : S → Option A → S → Type 0} (P : A → Type 0) (p : Run steps) → AllItems p P → (k : ℕ) (d : A) → k < length p.items → P (get_or p.items k d)
each_at {A} P p e k d h = go (p.at k) (p.reads k d (let l = p.long in omega arith)) (e k) where
  go : (o : Option A) → option_map (λ y. y) o ≡ Some (get_or p.items k d) → IfSome o P → P (get_or p.items k d)
  go None q c = absurd (let z : ◌≡◌ {A = ℕ} 0 1 = cc in omega arith)
  go (Some x) q c = let s : x ≡ get_or p.items k d = cc in subst P s c

pub made_by : {X Y : Type 0} (r : Result X Y) {Q P : X → Type 0} → IfOk r Q → ((v : X) → Q v → P v) → IfOk r P
made_by (Ok v) q k = k v q
made_by (Err e) q k = tt
