use Rattle.notation.proofs.ShownLaws.{Listing}
use Rattle.notation.proofs.listed.ListedDisplay.fmt.Given as goal

abbrev pub invariant-loop-item : goal.invariant-loop-item
invariant-loop-item g l = Listing g.T.Display.output l.mark g.W.Write.write_str_gives l.initial.f l.rest l.item-index l.f
