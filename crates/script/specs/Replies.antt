use Rattle.std.specs.Prelude.{ℕ, Bool, true, false, List, ◌++◌, map, length, vec_items, codes, decimal}
use Rattle.edges.specs.Refusals.{fault_text}
use Rattle.edges.specs.Texts.{run_text, entry_text}
use Rattle.edges.specs.declared.fault.Fault.{Fault}
use Rattle.edges.specs.declared.table.OffsetSize.{OffsetSize}
use Rattle.edges.specs.declared.table.Run.{Run}
use Rattle.notation.specs.Lists.{list_text}
use Rattle.script.specs.declared.answer.Answer.{Answer}
use Rattle.script.specs.declared.answer.Answer.TheVariants.{Entries, Runs, Made, Number, Found, Absent, Bounds, Chunks, Decided, Refused, RoomTooLarge, NotUnderstood}

-- What a line is answered.
pub data Reply : Type 0 where
  entries : List OffsetSize → Reply
  runs : List Run → Reply
  ok : Reply
  number : ℕ → Reply
  found : List ℕ → Reply
  absent : Reply
  bounds : List ℕ → List ℕ → Reply
  chunks : List ℕ → List ℕ → Reply
  decided : Bool → Reply
  refused : Fault → Reply
  room_too_large : Reply
  not_understood : Reply

-- The reply that an answer holds.
abbrev pub meant : Answer → Reply
meant (Entries v) = entries (vec_items v)
meant (Runs v) = runs (vec_items v)
meant Made = ok
meant (Number n) = number n
meant (Found v) = found (vec_items v)
meant Absent = absent
meant (Bounds v w) = bounds (vec_items v) (vec_items w)
meant (Chunks v w) = chunks (vec_items v) (vec_items w)
meant (Decided b) = decided b
meant (Refused f) = refused f
meant RoomTooLarge = room_too_large
meant NotUnderstood = not_understood

-- A list of numbers, as it is written.
abbrev pub numbers_text : List ℕ → List ℕ
numbers_text ns = list_text 44 (map decimal ns)

-- What is printed of a reply.
abbrev pub reply_text : Reply → List ℕ
reply_text (entries es) = decimal (length es) ++ (codes " entries " ++ list_text 32 (map entry_text es))
reply_text (runs rs) = decimal (length rs) ++ (codes " runs " ++ list_text 44 (map run_text rs))
reply_text ok = codes "ok"
reply_text (number n) = decimal n
reply_text (found ns) = codes "some " ++ numbers_text ns
reply_text absent = codes "none"
reply_text (bounds ns ms) = codes "some " ++ (numbers_text ns ++ (codes " to " ++ numbers_text ms))
reply_text (chunks ns ms) = codes "some " ++ (numbers_text ns ++ (codes " shape " ++ numbers_text ms))
reply_text (decided true) = codes "yes"
reply_text (decided false) = codes "no"
reply_text (refused f) = fault_text f
reply_text room_too_large = codes "room is at most 65536"
reply_text not_understood = codes "not understood"
