use Rattle.std.proofs.Common.{arith}
use Rattle.regular_grids.proofs.BoundedAnswers.{start_before}
use Rattle.regular_grids.proofs.regular_bounded.BoundedEdgesEdgeRule.edge.Goals as goal

pub overflow_sub-sides : goal.overflow_sub-sides
overflow_sub-sides c = let b = start_before _ _ _ c.args.sides.edge.positive _ c.in_ok-begin.ensures in omega arith

pub invariant_of-result : goal.invariant_of-result
invariant_of-result c =
    let b = start_before _ _ _ c.args.sides.edge.positive _ c.in_ok-begin.ensures in
    let p = c.args.sides.edge.positive in
    record { positive = omega arith }
