use Rattle.std.proofs.Common.{◌≡◌, true, sym, arith}
use Rattle.memory_stores.specs.Entries.{entry, names, no_entry}
use Rattle.memory_stores.specs.Named.{position_first, position_nowhere}
use Rattle.memory_stores.proofs.directory.Directory.slot_of.Goals as goal

pub returns-then-eq : goal.returns-then-eq
returns-then-eq c =
    let es = c.args.self.now.entries.now in
    let here : names c.args.chunk (entry es c.loop-slot.slot) ≡ true = cc in
    sym (position_first (names c.args.chunk) es no_entry c.loop-slot.slot (omega arith) c.loop-slot.invariant here)

pub returns : goal.returns
returns c = sym (position_nowhere (names c.args.chunk) c.args.self.now.entries.now no_entry (λ k l. c.loop-slot.invariant k (omega arith)))
