use Rattle.std.specs.Prelude.{◌≡◌, ℕ, ◌<◌, ◌≤◌, Bool, false, List, ◌++◌, length, Some, Ok, Err, Result, slice_index, slice_index_or}
use Rattle.std.specs.List.{slice_get}
use Rattle.edges.specs.declared.table.OffsetSize.{OffsetSize}
use Rattle.edges.specs.declared.table.Run.{Run}
use Rattle.edges.specs.declared.fault.Cause.{Cause}
use Rattle.edges.specs.declared.fault.Cause.TheVariants.{Sum}
use Rattle.edges.specs.declared.fault.Fault.{Fault}
use Rattle.edges.specs.Runs.{expand, total}
use Rattle.edges.specs.Answers.{lay_answer}
use Rattle.axes.specs.Axes.{Axis, varying}
use Rattle.grids.specs.Places.{refused_at}
use Rattle.table_grids.specs.declared.dimension.Dimension.{Dimension}
use Rattle.table_grids.specs.declared.dimension.Dimension.TheVariants.{Fixed, Varying}

-- The span of axis a holds what `lay` writes for these runs, and it writes something.
pub record LaidAt (ds : List Dimension) (t : List OffsetSize) (a : ℕ) (runs : List Run) : Type 0 where
  pub room : ℕ
  pub entries : List OffsetSize
  pub front : List OffsetSize
  pub rest : List OffsetSize
  pub laid : lay_answer runs room ≡ Ok entries
  pub nonempty : 1 ≤ length entries
  pub there : t ≡ front ++ (entries ++ rest)
  pub described : slice_index_or ds a (Fixed 0) ≡ Varying (length front) (length entries)

-- Where `lay` has laid runs, a refusal that names the axis is 4, and their sum breaks the rule; a grid that is made has their edges there.
abbrev pub LaidAccepted : (ℕ → ℕ → Bool) → List ℕ → List Dimension → List OffsetSize → List Axis → Result (Unit {0}) Fault → Type 0
LaidAccepted keeps ns ds t xs r =
    (a : ℕ) (runs : List Run) → a < 8 → LaidAt ds t a runs
    → ((c : Cause) → r ≡ Err (refused_at c a) → (c ≡ Sum) × (keeps (slice_index ns a) (total (expand runs)) ≡ false))
    × (r ≡ Ok tt → a < length ns → slice_get xs a ≡ Some (varying (slice_index ns a) (expand runs)))
