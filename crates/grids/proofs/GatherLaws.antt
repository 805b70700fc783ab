use Rattle.std.proofs.Common.{◌≡◌, ℕ, ◌+◌, ◌<◌, true, List, [], ◌∷◌, length, take, set, Some, Ok, Err, Result, refl, ap, ◌∙◌, subst, add-one}
use Rattle.std.proofs.lemmas.Bool.{eq-eqb, and_from}
use Rattle.std.specs.Result.{result_and}
use Rattle.std.proofs.lemmas.List.{take_more_set}
use Rattle.edges.specs.declared.fault.Fault.{Fault}
use Rattle.grids.specs.Places.{Answer, Gives, all_are, sized}
use Rattle.grids.specs.Answers.{push, gathered}

-- What the axes have answered so far: the first refusal, or the numbers.
abbrev pub so_far : Result (Unit {0}) Fault → List ℕ → Answer (List ℕ)
so_far (Ok u) xs = Ok (Some xs)
so_far (Err e) xs = Err e

pub so_far_value : (r : Result (Unit {0}) Fault) (n v : ℕ) (xs : List ℕ) → n < length xs
    → so_far r (take (n + 1) (set xs n v)) ≡ push (so_far r (take n xs)) (Ok (Some v))
so_far_value (Ok u) n v xs l = ap (λ (zs : List ℕ). Ok (Some zs)) (take_more_set xs n v l)
so_far_value (Err e) n v xs l = refl

-- a refusal after others: the first stays
pub so_far_refused : (r : Result (Unit {0}) Fault) (e : Fault) (xs ys : List ℕ) → so_far (result_and {U = Unit {0}} r (Err e)) xs ≡ push (so_far r ys) (Err e)
so_far_refused (Ok u) e xs ys = refl
so_far_refused (Err f) e xs ys = refl

pub gathered_none : (f : ℕ → Answer ℕ) → Ok (Some []) ≡ gathered f 0
unfolding gathered
gathered_none f = refl

-- one axis more
pub gathered_more : (f : ℕ → Answer ℕ) (n : ℕ) (before after : Answer (List ℕ)) (r : Answer ℕ)
    → before ≡ gathered f n → r ≡ f n → after ≡ push before r → after ≡ gathered f (n + 1)
unfolding gathered
gathered_more f n before after r p q e = rw add-one (e ∙ ap (push before) q ∙ ap (λ z. push z (f n)) p)

-- every length is that of the axes
abbrev pub Same : ℕ → List ℕ → Type 0
Same n [] = Unit {0}
Same n (m ∷ ms) = (m ≡ n) × Same n ms

all_same : (n : ℕ) (ms : List ℕ) → Same n ms → all_are n ms ≡ true
all_same n [] h = refl
all_same n (m ∷ ms) h = and_from _ _ (eq-eqb m n h.0) (all_same n ms h.1)

pub gives_sized : {P : Type 0} (n : ℕ) (ms : List ℕ) (before after : P) (r : Answer (Unit {0})) (d e : Answer P)
    → Same n ms → d ≡ e → Gives before after r d → Gives before after r (sized ms n e)
gives_sized n ms before after r d e same p gives = rw (all_same n ms same) (subst (Gives before after r) p gives)
