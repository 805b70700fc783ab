use Rattle.std.specs.Prelude.{◌≡◌, ℕ, cond, List, [], ◌∷◌, Some, None, Ok, Err, vec_items, codes, Option, Result, ◌==◌, slice_index}
use Rattle.std.specs.Option.{option_map}
use Rattle.std.specs.Str.{bytes_eq}
use Rattle.edges.specs.Answers.{lay_answer, compress_answer}
use Rattle.edges.specs.declared.fault.Fault.{Fault}
use Rattle.edges.specs.declared.table.OffsetSize.{OffsetSize}
use Rattle.edges.specs.declared.table.Run.{Run}
use Rattle.axes.specs.Axes.{Axis}
use Rattle.regular_grids.specs.RegularAxes.{new_regular, new_bounded}
use Rattle.table_grids.specs.Kinds.{new_rectangular, new_rectilinear}
use Rattle.table_grids.specs.declared.dimension.Dimension.{Dimension}
use Rattle.notation.specs.Texts.{words_of, number_in, field_in}
use Rattle.notation.specs.Lists.{list_in, run_in}
use Rattle.script.specs.declared.current.Current.{Current}
use Rattle.script.specs.declared.current.Current.TheVariants.{Lengths, Tables, Refused}
use Rattle.script.specs.declared.current.LengthKind.{LengthKind}
use Rattle.script.specs.declared.current.LengthKind.TheVariants.{Regular, Bounded}
use Rattle.script.specs.declared.current.TableKind.{TableKind}
use Rattle.script.specs.declared.current.TableKind.TheVariants.{Rectangular, Rectilinear}
use Rattle.script.specs.declared.name.Command.{Command}
use Rattle.script.specs.declared.name.Command.TheVariants.{Lay, Compress, Grid, Ask}
use Rattle.script.specs.Arguments.{with_read, with_room, two_of, three_of, number_field, numbers_field, if_read}
use Rattle.script.specs.Names.{command_named}
use Rattle.script.specs.Questions.{question_reply}
use Rattle.script.specs.Tables.{Laying, axes_in}
use Rattle.script.specs.Replies.{Reply, entries, runs, ok, refused, not_understood}

-- A command over a list, with room for its answer.
abbrev pub list_reply : {A : Type 0} → (List ℕ → Option A) → (List A → ℕ → Reply) → List (List ℕ) → Reply
list_reply read replies args =
    with_read (two_of args) (λ p.
    with_read (list_in read p.0) (λ xs.
    with_read (number_field (codes "room") p.1) (with_room (replies xs))))

abbrev pub or_refused : {A : Type 0} → (List A → Reply) → Result (List A) Fault → Reply
or_refused k (Ok xs) = k xs
or_refused k (Err f) = refused f

abbrev pub laid_reply : List Run → ℕ → Reply
laid_reply xs n = or_refused entries (lay_answer xs n)

abbrev pub compressed_reply : List ℕ → ℕ → Reply
compressed_reply xs n = or_refused runs (compress_answer xs n)

-- What is made of sizes and edges, and of sizes, axes and their table.
abbrev pub lengths_making : LengthKind → List ℕ → List ℕ → Result (List Axis) Fault
lengths_making Regular = new_regular
lengths_making Bounded = new_bounded

abbrev pub tables_making : TableKind → List ℕ → List Dimension → List OffsetSize → Result (List Axis) Fault
tables_making Rectangular = new_rectangular
tables_making Rectilinear = new_rectilinear

-- What the making of the current grid gives.
abbrev pub current_making : Current → Result (List Axis) Fault
current_making (Lengths kind sizes edges) = lengths_making kind (vec_items sizes) (vec_items edges)
current_making (Tables kind sizes axes table) = tables_making kind (vec_items sizes) (vec_items axes) (vec_items table)
current_making (Refused f) = Err f

-- What is made of laid axes; a refusal of the laying is the grid's.
abbrev pub laid_making : (List Dimension → List OffsetSize → Result (List Axis) Fault) → Laying → Option Fault → Result (List Axis) Fault
laid_making new l None = new l.dimensions l.table
laid_making new l (Some f) = Err f

abbrev pub axes_making : (List Dimension → List OffsetSize → Result (List Axis) Fault) → Laying → Result (List Axis) Fault
axes_making new l = laid_making new l l.fault

-- What a kind of grid makes of sizes and the text of its edges or axes.
abbrev pub kind_making : List ℕ → List ℕ → List ℕ → Option (Result (List Axis) Fault)
kind_making kind sizes spec =
    cond (bytes_eq kind (codes "regular")) (option_map (new_regular sizes) (list_in number_in spec))
    (cond (bytes_eq kind (codes "bounded")) (option_map (new_bounded sizes) (list_in number_in spec))
    (cond (bytes_eq kind (codes "rectangular")) (option_map (axes_making (new_rectangular sizes)) (axes_in spec))
    (cond (bytes_eq kind (codes "rectilinear")) (option_map (axes_making (new_rectilinear sizes)) (axes_in spec))
    None)))

-- `grid KIND sizes=LIST spec=TEXT`
abbrev pub making_in : List (List ℕ) → Option (Result (List Axis) Fault)
making_in args =
    if_read (three_of args) (λ t.
    if_read (numbers_field (codes "sizes") t.1) (λ sizes.
    if_read (field_in (codes "spec") t.2) (kind_making t.0 sizes)))

-- What a making answers, and the axes of the grid beside it: none beside a refusal.
abbrev pub outcome : Result (List Axis) Fault → Result (Unit {0}) Fault × List Axis
outcome (Ok xs) = (Ok tt, xs)
outcome (Err f) = (Err f, [])

-- The axes of the current grid: none where it is refused.
abbrev pub current_axes : Current → List Axis
current_axes c = (outcome (current_making c)).1

abbrev pub making_reply : Result (Unit {0}) Fault → Reply
making_reply (Ok u) = ok
making_reply (Err f) = refused f

abbrev pub made_reply : Option (Result (Unit {0}) Fault × List Axis) → Reply
made_reply None = not_understood
made_reply (Some p) = making_reply p.0

-- The axes of the current grid after it: a line that is not understood changes nothing.
abbrev pub made_axes : List Axis → Option (Result (Unit {0}) Fault × List Axis) → List Axis
made_axes xs None = xs
made_axes xs (Some p) = p.1

abbrev pub outcome_in : List (List ℕ) → Option (Result (Unit {0}) Fault × List Axis)
outcome_in args = option_map outcome (making_in args)

-- What a command replies, where the current grid has these axes.
abbrev pub command_reply : List Axis → Command → List (List ℕ) → Reply
command_reply xs Lay args = list_reply run_in laid_reply args
command_reply xs Compress args = list_reply number_in compressed_reply args
command_reply xs Grid args = made_reply (outcome_in args)
command_reply xs (Ask question) args = question_reply xs question args

-- The axes of the current grid after a command.
abbrev pub command_axes : List Axis → Command → List (List ℕ) → List Axis
command_axes xs Lay args = xs
command_axes xs Compress args = xs
command_axes xs Grid args = made_axes xs (outcome_in args)
command_axes xs (Ask question) args = xs

abbrev pub named_reply : List Axis → Option Command → List (List ℕ) → Reply
named_reply xs None args = not_understood
named_reply xs (Some c) args = command_reply xs c args

abbrev pub named_axes : List Axis → Option Command → List (List ℕ) → List Axis
named_axes xs None args = xs
named_axes xs (Some c) args = command_axes xs c args

abbrev pub words_reply : List Axis → List (List ℕ) → Option Reply
words_reply xs [] = None
words_reply xs (name ∷ args) = Some (named_reply xs (command_named name) args)

abbrev pub words_axes : List Axis → List (List ℕ) → List Axis
words_axes xs [] = xs
words_axes xs (name ∷ args) = named_axes xs (command_named name) args

-- The reply to a line: none to a line that begins with `#`, nor to one without a word.
abbrev pub reply : List Axis → List ℕ → Option Reply
reply xs line = cond (slice_index line 0 == 35) None (words_reply xs (words_of line))

-- The axes of the current grid after a line.
abbrev pub line_axes : List Axis → List ℕ → List Axis
line_axes xs line = cond (slice_index line 0 == 35) xs (words_axes xs (words_of line))

-- The current grid after a call: as defined, and as it was where memory did not suffice.
abbrev pub Becomes : {A E : Type 0} → Result A E → List Axis → List Axis → List Axis → Type 0
Becomes (Ok x) before after defined = after ≡ defined
Becomes (Err e) before after defined = after ≡ before
