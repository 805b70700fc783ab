use Rattle.std.proofs.Common.{◌≡◌, true, false, is_some, sym, ◌∙◌}
use Rattle.own_store.proofs.SingleLaws.{free_is}
use Rattle.own_store.proofs.single.SingleReadStore.free.Goals as goal

pub returns-then-is_some : goal.returns-then-is_some
returns-then-is_some c =
    let o = c.args.self.now.values in
    let on : is_some o ≡ true = cc in
    sym (free_is o ∙ rw on)

pub returns-else-is_some : goal.returns-else-is_some
returns-else-is_some c =
    let o = c.args.self.now.values in
    let off : is_some o ≡ false = cc in
    sym (free_is o ∙ rw off)
