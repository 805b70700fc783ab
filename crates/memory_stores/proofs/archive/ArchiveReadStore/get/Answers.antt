use Rattle.std.proofs.Common.{◌≤◌, length, refl, arith, rules}
use Rattle.memory_stores.proofs.Reading.{archive_row}
use Rattle.memory_stores.proofs.archive.ArchiveReadStore.get.Goals as goal

pub row-requires : goal.row-requires
row-requires g c =
    let s = c.args.self.now in
    let inside = c.in_ok-in_store.ensures.below refl in
    let fits = archive_row g.E.Element.blank s.values.now s.width c.args.chunk (omega arith) in
    rw c.width-width.ensures (search rules)

pub offset_bounds-self-row : goal.offset_bounds-self-row
offset_bounds-self-row g c =
    let s = c.args.self.now in
    let inside = c.in_ok-in_store.ensures.below refl in
    let fits = archive_row g.E.Element.blank s.values.now s.width c.args.chunk (omega arith) in
    rw (c.row.ensures.start, c.width-width.ensures) (omega arith)

pub slice_bounds-result-end : goal.slice_bounds-result-end
slice_bounds-result-end g c =
    let s = c.args.self.now in
    let inside = c.in_ok-in_store.ensures.below refl in
    let fits = archive_row g.E.Element.blank s.values.now s.width c.args.chunk (omega arith) in
    let within : c.row.result.end ≤ length s.values.now = rw (c.row.ensures.end, c.width-width.ensures) fits in
    search rules
