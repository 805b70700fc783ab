use Rattle.std.proofs.Common.{◌≡◌, ℕ, length, take}
use Rattle.grids.specs.Places.{Answer}
use Rattle.grids.specs.Answers.{gathered}
use Rattle.grids.specs.Gathers.{Answering}
use Rattle.grids.proofs.GatherLaws.{so_far}
use Rattle.grids.proofs.gather.gather.Given as goal

abbrev pub invariant-loop-axis : goal.invariant-loop-axis
invariant-loop-axis g l = record {
  full : length l.values ≡ 8;
  answers : (f : ℕ → Answer ℕ) → Answering (goal.F-post g l.ask) l.numbers f → so_far l.refused (take l.axis l.values) ≡ gathered f l.axis;
}
