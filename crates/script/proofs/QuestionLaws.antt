use Rattle.std.proofs.Common.{◌≡◌, ℕ, List, ◌++◌, length, take, Some, None, Ok, Err, ap, ◌∙◌}
use Rattle.std.proofs.lemmas.List.{take_at}
use Rattle.grids.specs.Places.{Answer, Gives}
use Rattle.script.specs.Questions.{answer_reply, answered_reply}
use Rattle.script.specs.Replies.{Reply}

-- what a call that gives an answer leaves to reply
pub given_reply : {P : Type 0} (k : P → Reply) (before after : P) (r : Answer (Unit {0})) (ans : Answer P) → Gives before after r ans → answered_reply r (k after) ≡ answer_reply k ans
given_reply k before after r (Ok (Some xs)) g = ap (λ q. answered_reply q (k after)) g.0 ∙ ap k g.1
given_reply k before after r (Ok None) g = ap (λ q. answered_reply q (k after)) g.0
given_reply k before after r (Err f) g = ap (λ q. answered_reply q (k after)) g.0

-- the same where the place is a vector with n entries, and where two are
pub placed_reply : (k : List ℕ → Reply) (before after rest : List ℕ) (m n : ℕ) (r : Answer (Unit {0})) (answer : ℕ → Answer (List ℕ)) → length before ≡ m → length after ≡ m → m ≡ n
    → Gives before after r (answer (length before)) → answered_reply r (k (take m (after ++ rest))) ≡ answer_reply k (answer n)
placed_reply k before after rest m n r answer b a e g =
    ap (λ xs. answered_reply r (k xs)) (take_at after rest m a) ∙ given_reply k before after r (answer (length before)) g ∙ ap (λ l. answer_reply k (answer l)) (b ∙ e)

pub both_placed_reply : (k : List ℕ × List ℕ → Reply) (before after rest before' after' rest' : List ℕ) (m m' n : ℕ) (r : Answer (Unit {0}))
    (answer : ℕ → ℕ → Answer (List ℕ × List ℕ)) → length before ≡ m → length after ≡ m → m ≡ n → length before' ≡ m' → length after' ≡ m' → m' ≡ n
    → Gives (before, before') (after, after') r (answer (length before) (length before'))
    → answered_reply r (k (take m (after ++ rest), take m' (after' ++ rest'))) ≡ answer_reply k (answer n n)
both_placed_reply k before after rest before' after' rest' m m' n r answer b a e b' a' e' g =
    ap (λ xs. answered_reply r (k (xs, take m' (after' ++ rest')))) (take_at after rest m a)
    ∙ ap (λ xs. answered_reply r (k (after, xs))) (take_at after' rest' m' a')
    ∙ given_reply k (before, before') (after, after') r (answer (length before) (length before')) g
    ∙ ap (λ l. answer_reply k (answer l (length before'))) (b ∙ e) ∙ ap (λ l. answer_reply k (answer n l)) (b' ∙ e')
