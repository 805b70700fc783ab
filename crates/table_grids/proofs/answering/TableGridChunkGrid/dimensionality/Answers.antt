use Rattle.std.proofs.Common.{sym}
use Rattle.axes.specs.AxisLaws.{length_from}
use Rattle.table_grids.proofs.answering.TableGridChunkGrid.dimensionality.Goals as goal

pub returns : goal.returns
returns g c = sym (length_from _ 0 _)
