use Rattle.std.proofs.Common.{◌≡◌, drop, vec_items}
use Rattle.notation.specs.Texts.{texts}
use Rattle.notation.specs.Lists.{each_in}
use Rattle.notation.proofs.ListLaws.{with_done}
use Rattle.notation.proofs.item.each.Given as goal

abbrev pub invariant-loop-word : goal.invariant-loop-word
invariant-loop-word g l = with_done (vec_items l.items) (each_in g.T.Item.reads (texts (drop l.word-index l.words))) ≡ each_in g.T.Item.reads (texts l.words)
