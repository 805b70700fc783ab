use Rattle.std.specs.Prelude.{ℕ, ◌<◌, ◌≤◌, Bool, List, slice_index, slice_index_or}
use Rattle.edges.specs.declared.table.OffsetSize.{OffsetSize}
use Rattle.axes.specs.Axes.{Axis, Lawful}
use Rattle.axes.specs.AxisLaws.{lawful_by}
use Rattle.grids.specs.Arrays.{Fit}
use Rattle.table_grids.specs.declared.dimension.Dimension.{Dimension}
use Rattle.table_grids.specs.declared.dimension.Dimension.TheVariants.{Fixed}
use Rattle.table_grids.specs.declared.table_grid.TableGrid.{TableGrid}
use Rattle.table_grids.specs.Spans.{axis_of, axes_over, FixedFit}
use Rattle.table_grids.specs.Causes.{Reaches, NoneRefused}
use Rattle.table_grids.specs.Valid.{ValidAxis, valid_axis, axis_lawful}

-- What a grid over a table means.
abbrev pub table_axes : {R : _} {b : _} → TableGrid R b → List Axis
table_axes g = axes_over g.table.now g.number g.array_shape g.axes

module _ (keeps : ℕ → ℕ → Bool) (reaches : Reaches keeps) (t : List OffsetSize) (number : ℕ) (ns : List ℕ) (ds : List Dimension) where
  pub axis_valid : NoneRefused keeps number t ns ds → (a : ℕ) → a < number → ValidAxis t (slice_index ns a) (slice_index_or ds a (Fixed 0))
  axis_valid none a l = valid_axis keeps reaches t (slice_index ns a) (slice_index_or ds a (Fixed 0)) (none a l)

  pub table_lawful : number ≤ 8 → Fit number ns → FixedFit number ds → NoneRefused keeps number t ns ds → Lawful (axes_over t number ns ds)
  table_lawful few fit narrow none =
      lawful_by number (λ a. axis_of t (slice_index ns a) (slice_index_or ds a (Fixed 0))) few
      (λ a l. axis_lawful t (slice_index ns a) (slice_index_or ds a (Fixed 0)) (fit a l) (narrow a l) (axis_valid none a l))
