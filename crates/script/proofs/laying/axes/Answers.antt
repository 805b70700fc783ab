use Rattle.std.proofs.Common.{rules}
use Rattle.script.specs.Tables.{axes_in}
use Rattle.script.proofs.laying.axes.Goals as goal

pub returns-then-eq : goal.returns-then-eq
unfolding axes_in
returns-then-eq c = search rules

pub returns : goal.returns
unfolding axes_in
returns c = search rules
