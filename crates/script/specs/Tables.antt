use Rattle.std.specs.Prelude.{ℕ, ◌-◌, cond, List, [], ◌∷◌, ◌++◌, length, Some, None, Ok, Err, vec_items, codes, Option, Result, ◌==◌}
use Rattle.std.specs.Option.{option_map}
use Rattle.std.specs.Str.{bytes_eq}
use Rattle.edges.specs.Answers.{lay_answer}
use Rattle.edges.specs.declared.fault.Fault.{Fault}
use Rattle.edges.specs.declared.table.OffsetSize.{OffsetSize}
use Rattle.edges.specs.declared.table.Run.{Run}
use Rattle.table_grids.specs.declared.dimension.Dimension.{Dimension}
use Rattle.table_grids.specs.declared.dimension.Dimension.TheVariants.{Fixed, Varying}
use Rattle.notation.specs.Texts.{parts_at, number_in}
use Rattle.notation.specs.Lists.{list_in, run_in}
use Rattle.script.specs.declared.tables.AxisText.{AxisText}
use Rattle.script.specs.declared.tables.AxisText.TheVariants.{Runs}
use Rattle.script.specs.declared.tables.AxisText.TheVariants as axis
use Rattle.script.specs.declared.tables.Tables.{Tables}

-- The text before a `]` at its end.
unfoldable pub closed : List ℕ → Option (List ℕ)
closed [] = None
closed (c ∷ []) = cond (c == 93) (Some []) None
closed (c ∷ d ∷ cs) = option_map (λ t. c ∷ t) (closed (d ∷ cs))

-- The text between a `[` and a `]`.
unfoldable pub bracketed : List ℕ → Option (List ℕ)
bracketed [] = None
bracketed (c ∷ cs) = cond (c == 91) (closed cs) None

-- Axes as they are laid one after another: their descriptions, the table so far, and the first refusal.
pub record Laying : Type 0 where
  pub dimensions : List Dimension
  pub table : List OffsetSize
  pub fault : Option Fault

abbrev pub laying : Tables → Laying
laying t = record { dimensions = vec_items t.dimensions; table = vec_items t.table; fault = None }

abbrev pub nothing_laid : Laying
nothing_laid = record { dimensions = []; table = []; fault = None }

-- one more axis, with one edge or with a list of its own
abbrev pub fixed_more : Laying → ℕ → Laying
fixed_more l e = record { dimensions = l.dimensions ++ Fixed e ∷ []; table = l.table; fault = l.fault }

abbrev pub laid_more : Laying → Result (List OffsetSize) Fault → Laying
laid_more l (Ok es) = record { dimensions = l.dimensions ++ Varying (length l.table) (length es) ∷ []; table = l.table ++ es; fault = l.fault }
laid_more l (Err f) = record { dimensions = l.dimensions; table = l.table; fault = Some f }

-- The runs go into what is left of a table with 65536 entries; after a refusal nothing more is laid.
abbrev pub runs_more : Laying → Option Fault → List Run → Laying
runs_more l None rs = laid_more l (lay_answer rs (65536 - length l.table))
runs_more l (Some f) rs = l

-- An axis is written `4`, or as runs in brackets, `[3x2,5]`.
abbrev pub axis_more : Laying → List ℕ → Option (List ℕ) → Option Laying
axis_more l t None = option_map (fixed_more l) (number_in t)
axis_more l t (Some inner) = option_map (runs_more l l.fault) (list_in run_in inner)

abbrev pub next_axis : Laying → List ℕ → Option Laying
next_axis l t = axis_more l t (bracketed t)

abbrev pub then_axes : (Laying → Option Laying) → Option Laying → Option Laying
then_axes k None = None
then_axes k (Some l) = k l

unfoldable pub axes_laid : List (List ℕ) → Laying → Option Laying
axes_laid [] l = Some l
axes_laid (t ∷ ts) l = then_axes (axes_laid ts) (next_axis l t)

-- The axes of a grid over a table: `-` for none, else with `;` between each two.
unfoldable pub axes_in : List ℕ → Option Laying
axes_in t = cond (bytes_eq t (codes "-")) (Some nothing_laid) (axes_laid (parts_at 59 t) nothing_laid)

-- One more axis, as it is written.
abbrev pub added : Laying → AxisText → Laying
added l (axis.Fixed e) = fixed_more l e
added l (Runs rs) = runs_more l l.fault (vec_items rs)

-- What was laid, or the first refusal.
abbrev pub unless : {A : Type 0} → A → Option Fault → Result A Fault
unless x None = Ok x
unless x (Some f) = Err f

abbrev pub whole : Laying → Result Laying Fault
whole l = unless l l.fault
