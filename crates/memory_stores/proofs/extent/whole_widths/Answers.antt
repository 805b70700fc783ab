use Rattle.std.proofs.Common.{rules}
use Rattle.memory_stores.specs.Extents.{whole_widths}
use Rattle.memory_stores.proofs.extent.whole_widths.Goals as goal

pub returns-then-width-eq0 : goal.returns-then-width-eq0
unfolding whole_widths
returns-then-width-eq0 c = search rules

pub returns-else-width-eq0 : goal.returns-else-width-eq0
unfolding whole_widths
returns-else-width-eq0 c = search rules
