use Rattle.std.proofs.Common.{◌≡◌, Some, length, set, sym, refl, ap, ◌∙◌, rules}
use Rattle.own_store.specs.Single.{single_held}
use Rattle.own_store.proofs.SingleLaws.{put_accepted, single_put}
use Rattle.own_store.proofs.single.SingleWriteStore.put.Goals as goal

pub returns : goal.returns
returns c =
    let o = c.args.self.now.values in
    let chunk = c.args.chunk in
    let p = c.args.place in
    let v = c.args.value in
    let inside = c.in_ok-in_store.ensures.below refl in
    let long : length c.readings-values.result ≡ 4 = search rules in
    let same = c.readings-values.ensures in
    record {
      answer = put_accepted o chunk p inside.0 inside.1;
      after = ap (λ xs. single_held (Some (set xs p v))) same ∙ single_put o chunk p inside.0 inside.1 v (sym (ap (λ xs. length xs) same) ∙ long);
      refused = tt;
    }
