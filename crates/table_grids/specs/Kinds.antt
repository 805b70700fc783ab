use Rattle.std.specs.Prelude.{ℕ, List, Result}
use Rattle.edges.specs.declared.fault.Fault.{Fault}
use Rattle.edges.specs.declared.table.OffsetSize.{OffsetSize}
use Rattle.axes.specs.Axes.{Axis, Lawful}
use Rattle.table_grids.specs.declared.dimension.Dimension.{Dimension}
use Rattle.table_grids.specs.declared.table_grid.TableGrid.{TableGrid}
use Rattle.table_grids.specs.TableAxes.{table_axes, table_lawful}
use Rattle.table_grids.specs.Causes.{exactly, at_least, new_table}

-- What a rectangular grid means, and what `Rectangular::new` makes. Of a grid by whatever sum rule, so that the clause of
-- `Rectangular::new` tells which one the name stands for; the rectilinear ones likewise.
abbrev pub rectangular_axes : {R : _} {b : _} → TableGrid R b → List Axis
rectangular_axes g = table_axes g

pub rectangular_lawful : {R : _} {b : _} (g : TableGrid R b) → Lawful (rectangular_axes g)
rectangular_lawful {R} {b} g = table_lawful b.keeps b.reaches g.table.now g.number g.array_shape g.axes g.few g.sizes_fit g.edges_fit g.none_refused

abbrev pub new_rectangular : List ℕ → List Dimension → List OffsetSize → Result (List Axis) Fault
new_rectangular = new_table exactly

-- What a rectilinear grid means, and what `Rectilinear::new` makes.
abbrev pub rectilinear_axes : {R : _} {b : _} → TableGrid R b → List Axis
rectilinear_axes g = table_axes g

pub rectilinear_lawful : {R : _} {b : _} (g : TableGrid R b) → Lawful (rectilinear_axes g)
rectilinear_lawful {R} {b} g = table_lawful b.keeps b.reaches g.table.now g.number g.array_shape g.axes g.few g.sizes_fit g.edges_fit g.none_refused

abbrev pub new_rectilinear : List ℕ → List Dimension → List OffsetSize → Result (List Axis) Fault
new_rectilinear = new_table at_least
