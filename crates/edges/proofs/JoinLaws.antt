use Rattle.std.proofs.Common.{◌≡◌, ℕ, suc, ◌+◌, ◌-◌, ◌<◌, ◌≤◌, Bool, true, false, cond, ◌||◌, eqb, leb, List, [], ◌∷◌, ◌++◌, length, get_or, take, drop, set, Ok, Err, sym, refl, ap, ◌∙◌, arith}
use Rattle.std.proofs.lemmas.List.{drop_more, drop-drop, drop-set-lt, at_drop_all, append_assoc, take_more_set, set_split, take_rest}
use Rattle.std.proofs.lemmas.Bool.{eqb-false, eq-eqb, ne_eqb, or_parts, cond-true, cond-false, le-leb, lt-leb}
use Rattle.edges.specs.declared.table.Run.{Run}
use Rattle.edges.specs.declared.fault.Fault.{Fault}
use Rattle.edges.specs.declared.fault.Cause.TheVariants.{Zero, Short}
use Rattle.edges.specs.Refusals.{edges_refusal, positive_answer}
use Rattle.edges.specs.Runs.{run_of, runs_from, runs_of, has_zero}
use Rattle.edges.specs.Answers.{runs_answer, compress_answer}

-- how often the edge changes, after an edge of length e
unfoldable pub changes : ℕ → List ℕ → ℕ
changes e [] = 0
changes e (x ∷ xs) = cond (eqb x e) (changes e xs) (1 + changes x xs)

module _ (e x : ℕ) (xs : List ℕ) where
  pub changes_same : x ≡ e → changes e (x ∷ xs) ≡ changes x xs
  unfolding changes
  changes_same p = cond-true (eqb x e) _ _ (eq-eqb x e p) ∙ ap (λ y. changes y xs) (sym p)

  pub changes_new : (x ≡ e → ⊥) → changes e (x ∷ xs) ≡ 1 + changes x xs
  unfolding changes
  changes_new p = cond-false (eqb x e) _ _ (ne_eqb x e p)

  pub joined_same : (n : ℕ) → x ≡ e → runs_from e n (x ∷ xs) ≡ runs_from e (n + 1) xs
  unfolding runs_from
  joined_same n p = cond-true (eqb x e) _ _ (eq-eqb x e p)

  pub joined_new : (n : ℕ) → (x ≡ e → ⊥) → runs_from e n (x ∷ xs) ≡ run_of e n ∷ runs_from x 1 xs
  unfolding runs_from
  joined_new n p = cond-false (eqb x e) _ _ (ne_eqb x e p)

pub length-runs_from : (e n : ℕ) (xs : List ℕ) → length (runs_from e n xs) ≡ 1 + changes e xs
unfolding runs_from changes
length-runs_from e n [] = refl
length-runs_from e n (x ∷ xs) = go (eqb x e) (length-runs_from e (n + 1) xs) (length-runs_from x 1 xs) where
  go : (b : Bool) → length (runs_from e (n + 1) xs) ≡ 1 + changes e xs → length (runs_from x 1 xs) ≡ 1 + changes x xs
      → length (cond b (runs_from e (n + 1) xs) (run_of e n ∷ runs_from x 1 xs)) ≡ 1 + cond b (changes e xs) (1 + changes x xs)
  go true h k = h
  go false h k = omega arith

-- an edge made of a number
pub made_ok : (n m : ℕ) → Ok m ≡ positive_answer n → (m ≡ n) × (eqb n 0 ≡ false)
made_ok n m p = go (eqb n 0) refl p where
  go : (b : Bool) → eqb n 0 ≡ b → Ok m ≡ cond b (Err (edges_refusal Zero)) (Ok n) → (m ≡ n) × (eqb n 0 ≡ false)
  go true z q = absurd (let k : ◌≡◌ {A = ℕ} 0 1 = cc in omega arith)
  go false z q = ((cc), z)

pub made_err : (n : ℕ) (f : Fault) → Err f ≡ positive_answer n → (f ≡ edges_refusal Zero) × (eqb n 0 ≡ true)
made_err n f p = go (eqb n 0) refl p where
  go : (b : Bool) → eqb n 0 ≡ b → Err f ≡ cond b (Err (edges_refusal Zero)) (Ok n) → (f ≡ edges_refusal Zero) × (eqb n 0 ≡ true)
  go true z q = ((cc), z)
  go false z q = absurd (let k : ◌≡◌ {A = ℕ} 0 1 = cc in omega arith)

-- the first edge and the rest, as a slice pattern gives them
abbrev pub rest_of : List ℕ → List ℕ
rest_of es = take (length es - 1) (drop 1 es)

pub first_rest : (es : List ℕ) → 1 ≤ length es → es ≡ get_or es 0 0 ∷ rest_of es
first_rest [] h = absurd (let n : ⊥ = omega arith in n)
first_rest (x ∷ xs) h = ap (λ ys. x ∷ ys) (sym (take_rest (x ∷ xs) 1))

pub no_first : (es : List ℕ) → length es < 1 → es ≡ []
no_first [] h = refl
no_first (x ∷ xs) h = absurd (let n : ⊥ = omega arith in n)

pub runs_answer_none : (es : List ℕ) → length es < 1 → Ok 0 ≡ runs_answer es
unfolding runs_answer has_zero runs_of
runs_answer_none es h = sym (ap runs_answer (no_first es h))

-- how many runs there are up to edge i of the rest, where the last edge is e
pub record Joining (es : List ℕ) (i number e : ℕ) : Type 0 where
  pub zeros : has_zero (drop i (rest_of es)) ≡ has_zero es
  pub runs : number + changes e (drop i (rest_of es)) ≡ length (runs_of es)
  pub small : number ≤ i + 1

module _ (es : List ℕ) (h : 1 ≤ length es) where
  pub joining_none : (e : ℕ) → Ok e ≡ positive_answer (get_or es 0 0) → Joining es 0 1 e
  unfolding has_zero runs_of
  joining_none e p =
      let k = made_ok (get_or es 0 0) e p in
      let f = first_rest es h in
      record {
        zeros = sym (ap has_zero f ∙ ap (λ b. b || has_zero (rest_of es)) k.1);
        runs = ap (λ x. 1 + changes x (rest_of es)) k.0 ∙ sym (ap (λ xs. length (runs_of xs)) f ∙ length-runs_from (get_or es 0 0) 1 (rest_of es));
        small = omega arith;
      }

  pub first_zero : (f : Fault) → Err f ≡ positive_answer (get_or es 0 0) → Err f ≡ runs_answer es
  unfolding runs_answer has_zero
  first_zero f p =
      let k = made_err (get_or es 0 0) f p in
      ap Err k.0 ∙ sym (cond-true (has_zero es) _ _ (ap has_zero (first_rest es h) ∙ ap (λ b. b || has_zero (rest_of es)) k.1))

module _ (es : List ℕ) (i number e : ℕ) (p : Joining es i number e) where
  module _ (l : i < length (rest_of es)) where
    pub next_zero : (f : Fault) → Err f ≡ positive_answer (get_or (rest_of es) i 0) → Err f ≡ runs_answer es
    unfolding runs_answer has_zero
    next_zero f q =
        let k = made_err (get_or (rest_of es) i 0) f q in
        ap Err k.0 ∙ sym (cond-true (has_zero es) _ _
        (sym p.zeros ∙ ap has_zero (drop_more (rest_of es) i 0 l) ∙ ap (λ b. b || has_zero (drop (i + 1) (rest_of es))) k.1))

    module _ (x : ℕ) (q : Ok x ≡ positive_answer (get_or (rest_of es) i 0)) where
      at_next : drop i (rest_of es) ≡ x ∷ drop (i + 1) (rest_of es)
      at_next = drop_more (rest_of es) i 0 l ∙ ap (λ y. y ∷ drop (i + 1) (rest_of es)) (sym (made_ok (get_or (rest_of es) i 0) x q).0)

      zeros_next : has_zero (drop (i + 1) (rest_of es)) ≡ has_zero es
      unfolding has_zero
      zeros_next =
          sym (ap has_zero (drop_more (rest_of es) i 0 l) ∙ ap (λ b. b || has_zero (drop (i + 1) (rest_of es))) (made_ok (get_or (rest_of es) i 0) x q).1)
          ∙ p.zeros

      pub joining_same : (m y : ℕ) → x ≡ e → m ≡ number → y ≡ x → Joining es (i + 1) m y
      joining_same m y s a b =
          let t : changes e (drop i (rest_of es)) ≡ changes y (drop (i + 1) (rest_of es))
          = ap (changes e) at_next ∙ changes_same e x (drop (i + 1) (rest_of es)) s ∙ ap (λ z. changes z (drop (i + 1) (rest_of es))) (sym b) in
          let r = p.runs in
          let g = p.small in
          record { zeros = zeros_next; runs = omega arith; small = omega arith }

      pub joining_new : (m y : ℕ) → (x ≡ e → ⊥) → m ≡ number + 1 → y ≡ x → Joining es (i + 1) m y
      joining_new m y s a b =
          let t : changes e (drop i (rest_of es)) ≡ 1 + changes y (drop (i + 1) (rest_of es))
          = ap (changes e) at_next ∙ changes_new e x (drop (i + 1) (rest_of es)) s ∙ ap (λ z. 1 + changes z (drop (i + 1) (rest_of es))) (sym b) in
          let r = p.runs in
          let g = p.small in
          record { zeros = zeros_next; runs = omega arith; small = omega arith }

  pub joining_all : length (rest_of es) ≤ i → Ok number ≡ runs_answer es
  unfolding runs_answer has_zero changes
  joining_all l =
      let t : changes e (drop i (rest_of es)) ≡ 0 = at_drop_all (changes e) (rest_of es) i l in
      let r = p.runs in
      let n : number ≡ length (runs_of es) = omega arith in
      ap Ok n ∙ sym (cond-false (has_zero es) _ _ (sym p.zeros ∙ at_drop_all has_zero (rest_of es) i l))

-- the place with the runs before the current one, of n edges of length e, written to its front
pub record Writing (es : List ℕ) (before : List Run) (i e n at : ℕ) (place : List Run) : Type 0 where
  pub zeros : has_zero (drop i (rest_of es)) ≡ false
  pub edge : 1 ≤ e
  pub count : 1 ≤ n
  pub small : n ≤ i + 1
  pub number : at + (1 + changes e (drop i (rest_of es))) ≡ length (runs_of es)
  pub written : take at place ++ runs_from e n (drop i (rest_of es)) ≡ runs_of es
  pub kept : drop at place ≡ drop at before

module _ (es : List ℕ) (before : List Run) where
  pub writing_none : 1 ≤ length es → has_zero es ≡ false → Writing es before 0 (get_or es 0 0) 1 0 before
  unfolding has_zero runs_of
  writing_none h z =
      let f = first_rest es h in
      let k = or_parts (eqb (get_or es 0 0) 0) (has_zero (rest_of es)) (sym (ap has_zero f) ∙ z) in
      let w : runs_from (get_or es 0 0) 1 (rest_of es) ≡ runs_of es = sym (ap runs_of f) in
      let m = length-runs_from (get_or es 0 0) 1 (rest_of es) in
      let n : length (runs_from (get_or es 0 0) 1 (rest_of es)) ≡ length (runs_of es) = ap length w in
      let d = eqb-false (get_or es 0 0) 0 k.0 in
      record { zeros = k.1; edge = omega arith; count = omega arith; small = omega arith; number = omega arith; written = w; kept = refl }

  pub writing_nothing : length es < 1 → before ≡ runs_of es ++ drop (length (runs_of es)) before
  unfolding runs_of
  writing_nothing h = sym (ap (λ xs. runs_of xs ++ drop (length (runs_of xs)) before) (no_first es h))

module _ (es : List ℕ) (before : List Run) (i e n at : ℕ) (place : List Run) (p : Writing es before i e n at place) where
  module _ (l : i < length (rest_of es)) where
    zeros_here : (eqb (get_or (rest_of es) i 0) 0 ≡ false) × (has_zero (drop (i + 1) (rest_of es)) ≡ false)
    unfolding has_zero
    zeros_here = or_parts (eqb (get_or (rest_of es) i 0) 0) (has_zero (drop (i + 1) (rest_of es))) (sym (ap has_zero (drop_more (rest_of es) i 0 l)) ∙ p.zeros)

    pub next_positive : 1 ≤ get_or (rest_of es) i 0
    next_positive = let d = eqb-false (get_or (rest_of es) i 0) 0 zeros_here.0 in omega arith

    pub writing_same : get_or (rest_of es) i 0 ≡ e → Writing es before (i + 1) e (n + 1) at place
    writing_same s =
        let xs = drop (i + 1) (rest_of es) in
        let f = drop_more (rest_of es) i 0 l in
        let t : changes e (drop i (rest_of es)) ≡ changes e (drop (i + 1) (rest_of es))
        = ap (changes e) f ∙ changes_same e (get_or (rest_of es) i 0) (drop (i + 1) (rest_of es)) s ∙ ap (λ z. changes z (drop (i + 1) (rest_of es))) s in
        let m = p.number in
        let c = p.small in
        record {
          zeros = zeros_here.1;
          edge = p.edge;
          count = omega arith;
          small = omega arith;
          number = omega arith;
          written = ap (λ ys. take at place ++ ys) (sym (ap (runs_from e n) f ∙ joined_same e (get_or (rest_of es) i 0) (drop (i + 1) (rest_of es)) n s)) ∙ p.written;
          kept = p.kept;
        }

    pub writing_new : (get_or (rest_of es) i 0 ≡ e → ⊥) → at < length place
        → Writing es before (i + 1) (get_or (rest_of es) i 0) 1 (at + 1) (set place at (run_of e n))
    writing_new s h =
        let f = drop_more (rest_of es) i 0 l in
        let t : changes e (drop i (rest_of es)) ≡ 1 + changes (get_or (rest_of es) i 0) (drop (i + 1) (rest_of es))
        = ap (changes e) f ∙ changes_new e (get_or (rest_of es) i 0) (drop (i + 1) (rest_of es)) s in
        let m = p.number in
        record {
          zeros = zeros_here.1;
          edge = next_positive;
          count = omega arith;
          small = omega arith;
          number = omega arith;
          written = ap (λ ys. ys ++ runs_from (get_or (rest_of es) i 0) 1 (drop (i + 1) (rest_of es))) (take_more_set place at (run_of e n) h)
              ∙ append_assoc (take at place) (run_of e n ∷ []) (runs_from (get_or (rest_of es) i 0) 1 (drop (i + 1) (rest_of es)))
              ∙ ap (λ ys. take at place ++ ys) (sym (ap (runs_from e n) f ∙ joined_new e (get_or (rest_of es) i 0) (drop (i + 1) (rest_of es)) n s)) ∙ p.written;
          kept = drop-set-lt (at + 1) place at (run_of e n) (omega arith) ∙ sym (drop-drop 1 at place) ∙ ap (drop 1) p.kept ∙ drop-drop 1 at before;
        }

  pub writing_all : length (rest_of es) ≤ i → at < length place
      → set place at (run_of e n) ≡ runs_of es ++ drop (length (runs_of es)) before
  unfolding runs_from changes
  writing_all l h =
      let t : changes e (drop i (rest_of es)) ≡ 0 = at_drop_all (changes e) (rest_of es) i l in
      let w : take at place ++ run_of e n ∷ [] ≡ runs_of es = ap (λ ys. take at place ++ ys) (sym (at_drop_all (runs_from e n) (rest_of es) i l)) ∙ p.written in
      let m = p.number in
      let k : at + 1 ≡ length (runs_of es) = omega arith in
      let s : suc at ≡ at + 1 = omega arith in
      set_split place at (run_of e n) h
      ∙ sym (append_assoc (take at place) (run_of e n ∷ []) (drop (suc at) place))
      ∙ ap (λ ys. ys ++ drop (suc at) place) w
      ∙ ap (λ ys. runs_of es ++ ys) (ap (λ j. drop j place) s ∙ sym (drop-drop 1 at place) ∙ ap (drop 1) p.kept ∙ drop-drop 1 at before ∙ ap (λ j. drop j before) k)

pub writing_room : {es : List ℕ} {before : List Run} {i e n at : ℕ} {place : List Run} → Writing es before i e n at place → length (runs_of es) ≤ length before
    → at < length before
writing_room p h = let m = p.number in omega arith

-- what `number_of_runs` answers
pub runs_ok : (es : List ℕ) (n : ℕ) → Ok n ≡ runs_answer es → (has_zero es ≡ false) × (n ≡ length (runs_of es))
unfolding runs_answer
runs_ok es n p = go (has_zero es) refl p where
  go : (b : Bool) → has_zero es ≡ b → Ok n ≡ cond b (Err (edges_refusal Zero)) (Ok (length (runs_of es))) → (has_zero es ≡ false) × (n ≡ length (runs_of es))
  go true z q = absurd (let k : ◌≡◌ {A = ℕ} 0 1 = cc in omega arith)
  go false z q = (z, (cc))

pub runs_err : (es : List ℕ) (room : ℕ) (f : Fault) → Err f ≡ runs_answer es → compress_answer es room ≡ Err f
unfolding runs_answer compress_answer
runs_err es room f p = go (has_zero es) p where
  go : (b : Bool) → Err f ≡ cond b (Err (edges_refusal Zero)) (Ok (length (runs_of es)))
      → cond b (Err (edges_refusal Zero)) (cond (leb (length (runs_of es)) room) (Ok (runs_of es)) (Err (edges_refusal Short))) ≡ Err f
  go true q = let e : edges_refusal Zero ≡ f = cc in ap Err e
  go false q = absurd (let k : ◌≡◌ {A = ℕ} 0 1 = cc in omega arith)

module _ (es : List ℕ) (room n : ℕ) (p : Ok n ≡ runs_answer es) where
  pub place_short : room < n → compress_answer es room ≡ Err (edges_refusal Short)
  unfolding compress_answer
  place_short h =
      let k = (runs_ok es n p).1 in
      cond-false (has_zero es) _ _ (runs_ok es n p).0 ∙ cond-false (leb (length (runs_of es)) room) _ _ (lt-leb (length (runs_of es)) room (omega arith))

  pub place_enough : n ≤ room → compress_answer es room ≡ Ok (runs_of es)
  unfolding compress_answer
  place_enough h =
      let k = (runs_ok es n p).1 in
      cond-false (has_zero es) _ _ (runs_ok es n p).0 ∙ cond-true (leb (length (runs_of es)) room) _ _ (le-leb (length (runs_of es)) room (omega arith))

pub writing_by : (es : List ℕ) (before : List Run) (i e n at e' n' at' : ℕ) (place place' : List Run)
    → e' ≡ e → n' ≡ n → at' ≡ at → place' ≡ place → Writing es before i e n at place → Writing es before i e' n' at' place'
writing_by es before i e n at e' n' at' place place' a b c d w = rw (a, b, c, d) w
