use Rattle.std.proofs.Common.{◌≡◌, take, drop, ◌++◌}
use Rattle.std.specs.List.{list_any}
use Rattle.memory_stores.specs.Entries.{names, released}
use Rattle.memory_stores.proofs.pool.PoolWriteStore.erase.Given as goal

abbrev pub invariant-loop-entry : goal.invariant-loop-entry
invariant-loop-entry g l = record {
  let_go : l.entry-items ≡ released l.chunk (take l.entry-index l.initial.entry-items) ++ drop l.entry-index l.initial.entry-items;
  found : l.was ≡ list_any (names l.chunk) (take l.entry-index l.initial.entry-items);
}
