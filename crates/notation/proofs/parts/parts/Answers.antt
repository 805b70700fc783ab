use Rattle.std.proofs.Common.{◌≡◌, ◌<◌, length, sym, subst, arith}
use Rattle.std.specs.Str.Iter.{LacksByte}
use Rattle.notation.specs.Texts.{texts, parts_at}
use Rattle.notation.proofs.TextLaws.{made_by, parts_of, each_at}
use Rattle.notation.proofs.parts.parts.Goals as goal

pub returns : goal.returns
returns c = made_by c.collect.result c.collect.ensures.runs (λ v w.
    let run = w tt in
    let p = run.0 in
    let cut = c.split.ensures.runs p p.seen run.1 in
    let at = cut.2 c.requires (λ q e. e, λ t o h. h) in
    let some : 0 < length p.items = (let l = p.long in omega (arith, cut.0 run.2)) in
    subst (λ xs. texts xs ≡ parts_at c.args.mark c.args.text.now) (sym run.3.0)
    (parts_of c.args.mark c.args.text.now p.items some (each_at (λ x. LacksByte c.args.mark x.now) p at.1.0) (at.0.2 run.2)))
