use Rattle.std.proofs.Common.{◌≡◌, Some, None, vec_items, ◌∙◌, arith}
use Rattle.std.proofs.lemmas.Result.{err_from_is_err_and}
use Rattle.notation.specs.declared.error.ListError.TheVariants.{NotAList}
use Rattle.notation.proofs.ListLaws.{each_none, each_more, each_all}
use Rattle.notation.proofs.item.each.Goals as goal

pub returns-in_err-ok_or : goal.returns-in_err-ok_or
returns-in_err-ok_or g c =
    let none : None ≡ c.read.result = grind arith in
    let not : c.in_err-ok_or.field-0.0 ≡ NotAList = grind arith in
    let p = err_from_is_err_and c.from_residual.result c.from_residual.ensures.1 in
    rw (p.1, p.2, not)
    (each_none g.T.Item.reads c.args.words.now c.loop-word.word-index (vec_items c.loop-word.items) c.loop-word.invariant c.loop-word-test.true (none ∙ c.read.ensures))

pub loop-word-preserved : goal.loop-word-preserved
loop-word-preserved g c =
    let some : Some c.in_ok-ok_or.field-0 ≡ c.read.result = grind arith in
    rw c.in_ok-push.ensures.items
    (each_more g.T.Item.reads c.args.words.now c.loop-word.word-index (vec_items c.loop-word.items) c.loop-word.invariant c.loop-word-test.true c.in_ok-ok_or.field-0
    (some ∙ c.read.ensures))

pub returns : goal.returns
returns g c =
    each_all g.T.Item.reads c.args.words.now c.loop-word.word-index (vec_items c.loop-word.items) c.loop-word.invariant (omega arith)
