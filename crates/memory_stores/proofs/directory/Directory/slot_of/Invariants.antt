use Rattle.std.proofs.Common.{◌≡◌, ℕ, ◌<◌, false}
use Rattle.memory_stores.specs.Entries.{entry, names}
use Rattle.memory_stores.proofs.directory.Directory.slot_of.Given as goal

abbrev pub invariant-loop-slot : goal.invariant-loop-slot
invariant-loop-slot l = (k : ℕ) → k < l.slot → names l.chunk (entry l.self.entries.now k) ≡ false
