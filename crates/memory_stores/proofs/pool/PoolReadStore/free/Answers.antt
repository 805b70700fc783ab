use Rattle.std.proofs.Common.{◌≡◌, length, count_by, sym, ◌∙◌}
use Rattle.std.specs.List.{range_with_len}
use Rattle.memory_stores.specs.Entries.{busy}
use Rattle.memory_stores.specs.Extents.{pool_limit}
use Rattle.memory_stores.specs.Meanings.{slots_in}
use Rattle.memory_stores.proofs.Counting.{count_listed}
use Rattle.memory_stores.proofs.OfPool.{pool_free, taken_few}
use Rattle.memory_stores.proofs.pool.PoolReadStore.free.Goals as goal

pub overflow_sub-result : goal.overflow_sub-result
overflow_sub-result g c =
    let s = c.args.self.now in
    let f = busy (slots_in s) (pool_limit s.width s.limit) in
    let counted : c.taken.result ≡ count_by f (range_with_len 0 (length (slots_in s))) = cc in
    rw c.slots.ensures (taken_few g.E.Element.blank s.values.now s.entries s.width s.limit c.taken.result (counted ∙ sym (count_listed f (length (slots_in s)))))

pub returns : goal.returns
returns g c =
    let s = c.args.self.now in
    let f = busy (slots_in s) (pool_limit s.width s.limit) in
    let counted : c.taken.result ≡ count_by f (range_with_len 0 (length (slots_in s))) = cc in
    rw c.slots.ensures (pool_free g.E.Element.blank s.values.now s.entries s.width s.limit c.taken.result (counted ∙ sym (count_listed f (length (slots_in s)))))
