use Rattle.std.proofs.Common.{◌≡◌, ◌≤◌, not, take, count_by}
use Rattle.memory_stores.proofs.flat.FlatReadStore.free.Given as goal

abbrev pub invariant-loop-mark : goal.invariant-loop-mark
invariant-loop-mark g l = (l.free ≡ count_by not (take l.mark-index l.mark-items)) × (l.free ≤ l.mark-index)
