use Rattle.std.proofs.Common.{◌≡◌, length, get_or, Ok, refl, ap, ◌∙◌, arith, rules}
use Rattle.std.proofs.lemmas.List.{get_or_default}
use Rattle.own_store.specs.Single.{unmeasured}
use Rattle.own_store.proofs.SingleLaws.{single_get}
use Rattle.own_store.proofs.single.SingleReadStore.get.Goals as goal

pub returns : goal.returns
returns c =
    let p = c.args.place in
    let inside = c.in_ok-in_store.ensures.below refl in
    let xs = c.readings.result in
    let long : length xs ≡ 4 = search rules in
    ap Ok (get_or_default xs p (record { percent = 0 }) unmeasured (omega arith) ∙ ap (λ ys. get_or ys p unmeasured) c.readings.ensures)
    ∙ single_get c.args.self.now.values c.args.chunk p inside.0 inside.1
