use Rattle.std.proofs.Common.{◌≡◌, ℕ}
use Rattle.stores.specs.Held.{Held}

-- Two meanings are equal part by part.
pub same_held : {E : Type 0} (h k : Held E) → h.limit ≡ k.limit → h.width ≡ k.width → h.slots ≡ k.slots → h.fill ≡ k.fill
    → ((c : ℕ) → h.present c ≡ k.present c) → ((c p : ℕ) → h.value c p ≡ k.value c p) → h ≡ k
same_held h k l w s f p v =
    λ i. record { limit = l i; width = w i; slots = s i; fill = f i; present = λ c. p c i; value = λ c q. v c q i }
