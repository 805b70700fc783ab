use Rattle.std.proofs.Common.{◌≡◌, ℕ, ◌+◌, ◌<◌, ◌≤◌, true, false, eqb, List, [], ◌∷◌, ◌++◌, length, get_or, drop, Some, None, Ok, Err, vec_items, Option, Result, sym, refl, ap, ◌∙◌, Bor, MatchOption}
use Rattle.std.specs.Option.{option_map}
use Rattle.std.specs.Result.{is_ok}
use Rattle.std.proofs.lemmas.List.{drop_more, at_drop_all}
use Rattle.std.proofs.lemmas.Option.{same_Some}
use Rattle.std.proofs.lemmas.Bool.{cond-true, cond-false, eq-eqb, ne_eqb, both_ways}
use Rattle.notation.specs.Texts.{texts}
use Rattle.notation.proofs.WordLaws.{no_text}
use Rattle.edges.specs.declared.fault.Fault.{Fault}
use Rattle.script.specs.declared.tables.AxisText.{AxisText}
use Rattle.script.specs.declared.tables.AxisText.TheVariants.{Runs}
use Rattle.script.specs.declared.tables.AxisText.TheVariants as axis
use Rattle.script.specs.declared.tables.Tables.{Tables}
use Rattle.script.specs.Tables.{closed, bracketed, Laying, laying, next_axis, then_axes, axes_laid, runs_more, added, unless, whole}

-- a text in brackets
closed_there : (front : List ℕ) → closed (front ++ 93 ∷ []) ≡ Some front
unfolding closed
closed_there [] = refl
closed_there (c ∷ []) = refl
closed_there (c ∷ d ∷ front) = ap (option_map (λ t. c ∷ t)) (closed_there (d ∷ front))

closed_none : (cs : List ℕ) → ((front : List ℕ) → cs ≡ front ++ 93 ∷ [] → ⊥) → closed cs ≡ None
unfolding closed
closed_none [] n = refl
closed_none (c ∷ []) n = cond-false (eqb c 93) (Some []) None (ne_eqb c 93 (λ e. n [] (ap (λ x. x ∷ []) e)))
closed_none (c ∷ d ∷ cs) n = ap (option_map (λ t. c ∷ t)) (closed_none (d ∷ cs) (λ front e. n (c ∷ front) (ap (λ t. c ∷ t) e)))

pub closed_is : (cs : List ℕ) (r : Option (Bor (List ℕ))) → MatchOption r ((front : List ℕ) → cs ≡ front ++ 93 ∷ [] → ⊥) (λ x. cs ≡ x.now ++ 93 ∷ []) → option_map (λ x. x.now) r ≡ closed cs
closed_is cs None h = sym (closed_none cs h)
closed_is cs (Some x) h = sym (ap closed h ∙ closed_there x.now)

pub not_opened : (t : List ℕ) → ((rest : List ℕ) → t ≡ 91 ∷ rest → ⊥) → None ≡ bracketed t
unfolding bracketed
not_opened [] n = refl
not_opened (c ∷ cs) n = sym (cond-false (eqb c 91) (closed cs) None (ne_eqb c 91 (λ e. n cs (ap (λ x. x ∷ cs) e))))

pub opened : (t rest : List ℕ) → t ≡ 91 ∷ rest → closed rest ≡ bracketed t
unfolding bracketed
opened t rest e = sym (ap bracketed e ∙ cond-true (eqb 91 91) (closed rest) None (eq-eqb 91 91 refl))

-- the axes, one text after another
module _ (words : List (Bor (List ℕ))) (start : Laying) (i : ℕ) (l : Laying) (p : axes_laid (texts (drop i words)) l ≡ axes_laid (texts words) start) where
  module _ (h : i < length words) where
    next_word : axes_laid (texts (drop i words)) l ≡ then_axes (axes_laid (texts (drop (i + 1) words))) (next_axis l (get_or words i no_text).now)
    unfolding axes_laid
    next_word = ap (λ ws. axes_laid (texts ws) l) (drop_more words i no_text h)

    pub axis_unread : None ≡ next_axis l (get_or words i no_text).now → None ≡ axes_laid (texts words) start
    axis_unread e = ap (then_axes (axes_laid (texts (drop (i + 1) words)))) e ∙ sym next_word ∙ p

    pub axis_read : (m : Laying) → Some m ≡ next_axis l (get_or words i no_text).now → axes_laid (texts (drop (i + 1) words)) m ≡ axes_laid (texts words) start
    axis_read m e = ap (then_axes (axes_laid (texts (drop (i + 1) words)))) e ∙ sym next_word ∙ p

  pub axes_read : length words ≤ i → Some l ≡ axes_laid (texts words) start
  unfolding axes_laid
  axes_read h = sym (at_drop_all (λ ws. axes_laid (texts ws) l) words i h) ∙ p

-- after a refusal nothing more is laid
fault_kept : (l : Laying) (a : AxisText) (f : Fault) → l.fault ≡ Some f → (added l a).fault ≡ Some f
fault_kept l (axis.Fixed e) f q = q
fault_kept l (Runs rs) f q = ap (λ o. (runs_more l o (vec_items rs)).fault) q ∙ q

fault_is : (l : Laying) (f : Fault) → Some (Err f) ≡ Some (whole l) → l.fault ≡ Some f
fault_is l f e = go l.fault e where
  go : (o : Option Fault) → Some (Err f) ≡ Some (unless l o) → o ≡ Some f
  go None q = cc
  go (Some g) q = cc

whole_is : (l m : Laying) → Some (Ok m) ≡ Some (whole l) → m ≡ l
whole_is l m e = go l.fault e where
  go : (o : Option Fault) → Some (Ok m) ≡ Some (unless l o) → m ≡ l
  go None q = cc
  go (Some f) q = cc

-- what the axes read so far give: their tables, or the first refusal
abbrev pub told : Result (Unit {0}) Fault → Tables → Result Laying Fault
told (Ok u) t = Ok (laying t)
told (Err f) t = Err f

-- one more axis is laid, or refused
module _ (m : Laying) (r : Result (Unit {0}) Fault) (t : Tables) (a : AxisText) (e : whole m ≡ told r t) where
  laid_on : is_ok r ≡ true → whole (added m a) ≡ whole (added (laying t) a)
  laid_on k = go r e k where
    go : (s : Result (Unit {0}) Fault) → whole m ≡ told s t → is_ok s ≡ true → whole (added m a) ≡ whole (added (laying t) a)
    go (Ok u) q k = ap (λ l. whole (added l a)) (sym (whole_is m (laying t) (ap Some (sym q))))
    go (Err f) q k = absurd (both_ways false refl k)

  pub told_added : (x : Result Laying Fault) → is_ok r ≡ true → Some x ≡ Some (whole (added (laying t) a)) → whole (added m a) ≡ x
  told_added x k f = laid_on k ∙ sym (same_Some _ _ f)

  pub told_refused : is_ok r ≡ false → whole (added m a) ≡ told r t
  told_refused k = go r e k where
    go : (s : Result (Unit {0}) Fault) → whole m ≡ told s t → is_ok s ≡ false → whole (added m a) ≡ told s t
    go (Ok u) q k = absurd (both_ways true k refl)
    go (Err f) q k = ap (unless (added m a)) (fault_kept m a f (fault_is m f (ap Some (sym q))))

pub told_ok : (r : Result (Unit {0}) Fault) (t : Tables) → is_ok r ≡ true → told r t ≡ Ok (laying t)
told_ok (Ok u) t k = refl
told_ok (Err f) t k = absurd (both_ways false refl k)
