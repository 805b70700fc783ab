use Rattle.std.proofs.Common.{◌<◌, ◌≤◌, length, ⊎_elim, arith}
use Rattle.std.proofs.lemmas.Bool.{cases_lt}
use Rattle.std.proofs.lemmas.Grind.{common_steps}
use Rattle.table_grids.proofs.Tables.{origin_there, origin_past}
use Rattle.table_grids.proofs.span.Span.origin.Goals as goal

pub returns : goal.returns
returns c = λ a.
    let s = c.args.self in
    ⊎_elim
    (λ (l : c.args.chunk < length s.entries.now). rw (origin_there s a c.args.chunk l) (grind (arith, common_steps)))
    (λ (l : length s.entries.now ≤ c.args.chunk). rw (origin_past s a c.args.chunk l) (grind (arith, common_steps)))
    (cases_lt c.args.chunk (length s.entries.now))
