use Rattle.std.proofs.Common.{◌≡◌, Some, None, Ok, Err, Option, Result, sym, subst}
use Rattle.std.specs.Result.{IsErrAnd}
use Rattle.edges.specs.declared.fault.Fault.{Fault}
use Rattle.notation.specs.declared.error.ListError.{ListError}
use Rattle.notation.specs.declared.error.ListError.TheVariants.{NotAList}
use Rattle.notation.specs.declared.error.ListError.TheVariants as error
use Rattle.notation.specs.Lists.{Reads}
use Rattle.script.specs.declared.stop.Stop.{Stop}
use Rattle.script.specs.declared.stop.Stop.TheVariants.{NotUnderstood, RoomTooLarge, Refused, OutOfMemory}
use Rattle.script.specs.Stops.{unread, understood, MakesOrStops}

-- what is made within another making stops that one too
module _ {C D : Type 0} (made : C → Result D Fault) (o : Option (Result D Fault)) where
  pub still_stopped : {A B : Type 0} (inner : A → Result B Fault) (stop : Stop) (p : Option (Result B Fault)) (r : Result C Stop) → IsErrAnd r (λ s. s ≡ stop)
      → MakesOrStops inner (Err stop) p → (None ≡ p → None ≡ o) → ((f : Fault) → Some (Err f) ≡ p → Some (Err f) ≡ o) → MakesOrStops made r o
  still_stopped inner stop p (Ok x) i h k l = absurd i
  still_stopped inner NotUnderstood p (Err s) i h k l = subst (λ t. MakesOrStops made (Err t) o) (sym i) (k h)
  still_stopped inner RoomTooLarge p (Err s) i h k l = absurd h
  still_stopped inner (Refused f) p (Err s) i h k l = subst (λ t. MakesOrStops made (Err t) o) (sym i) (l f h)
  still_stopped inner (OutOfMemory e) p (Err s) i h k l = subst (λ t. MakesOrStops made (Err t) o) (sym i) tt

  pub unread_stops : {A B : Type 0} (held : A → B) (e : ListError) (p : Option B) (r : Result C Stop) → IsErrAnd r (λ s. s ≡ unread e)
      → Reads held (Err e) p → (None ≡ p → None ≡ o) → MakesOrStops made r o
  unread_stops held e p (Ok x) i h k = absurd i
  unread_stops held NotAList p (Err s) i h k = subst (λ t. MakesOrStops made (Err t) o) (sym i) (k h)
  unread_stops held (error.OutOfMemory e) p (Err s) i h k = subst (λ t. MakesOrStops made (Err t) o) (sym i) tt

pub understood_is : {A : Type 0} (o : Option A) (x : A) → Ok x ≡ understood o → Some x ≡ o
understood_is None x e = cc
understood_is (Some y) x e = cc
