use Rattle.std.specs.Prelude.{◌≡◌, Some, None, Ok, Err, IfOk, Option, Result}
use Rattle.std.specs.declared.alloc.AllocError.{AllocError}
use Rattle.edges.specs.declared.fault.Fault.{Fault}
use Rattle.notation.specs.declared.error.ListError.{ListError}
use Rattle.notation.specs.declared.error.ListError.TheVariants.{NotAList}
use Rattle.notation.specs.declared.error.ListError.TheVariants as error
use Rattle.script.specs.declared.answer.Answer.{Answer}
use Rattle.script.specs.declared.answer.Answer.TheVariants as answer
use Rattle.script.specs.declared.stop.Stop.{Stop}
use Rattle.script.specs.declared.stop.Stop.TheVariants.{NotUnderstood, RoomTooLarge, Refused, OutOfMemory}
use Rattle.script.specs.Replies.{Reply, meant}

-- Why a command stops, where a list is not read.
abbrev pub unread : ListError → Stop
unread NotAList = NotUnderstood
unread (error.OutOfMemory e) = OutOfMemory e

-- What is absent is not understood.
abbrev pub understood : {A : Type 0} → Option A → Result A Stop
understood None = Err NotUnderstood
understood (Some x) = Ok x

-- What a command is answered: why it stopped too, but for want of memory.
abbrev pub settled : Result Answer Stop → Result Answer AllocError
settled (Ok a) = Ok a
settled (Err NotUnderstood) = Ok answer.NotUnderstood
settled (Err RoomTooLarge) = Ok answer.RoomTooLarge
settled (Err (Refused f)) = Ok (answer.Refused f)
settled (Err (OutOfMemory e)) = Err e

-- A command is answered by this reply; where memory does not suffice, nothing is said.
abbrev pub Replies : Result Answer Stop → Reply → Type 0
Replies result reply = IfOk (settled result) (λ a. meant a ≡ reply)

-- What a making gives: what is made, or why it stops; where memory does not suffice, nothing is said.
abbrev pub MakesOrStops : {A B : Type 0} → (A → Result B Fault) → Result A Stop → Option (Result B Fault) → Type 0
MakesOrStops made (Ok x) o = Some (made x) ≡ o
MakesOrStops made (Err NotUnderstood) o = None ≡ o
MakesOrStops made (Err RoomTooLarge) o = ⊥
MakesOrStops made (Err (Refused f)) o = Some (Err f) ≡ o
MakesOrStops made (Err (OutOfMemory e)) o = Unit {0}
