use Rattle.std.proofs.Common.{◌≡◌, ℕ, ◌<◌, None}
use Rattle.grids.specs.Answers.{beyond}
use Rattle.grids.proofs.regions.ends_fit.Given as goal

abbrev pub invariant-loop-axis : goal.invariant-loop-axis
invariant-loop-axis l = (k : ℕ) → k < l.axis → beyond l.start l.shape k ≡ None
