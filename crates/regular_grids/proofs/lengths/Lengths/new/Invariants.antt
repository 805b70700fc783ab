use Rattle.std.proofs.Common.{◌≡◌, ℕ, ◌<◌, length, None}
use Rattle.regular_grids.specs.LengthAxes.{zero_edge}
use Rattle.regular_grids.proofs.LengthLaws.{Filled}
use Rattle.regular_grids.proofs.lengths.Lengths.new.Given as goal

abbrev pub invariant-loop-axis : goal.invariant-loop-axis
invariant-loop-axis l = record {
  filled : Filled l.sizes l.edges l.places l.axis;
  positive : (k : ℕ) → k < l.axis → zero_edge l.edges k ≡ None;
  long : length l.places ≡ 8;
}
