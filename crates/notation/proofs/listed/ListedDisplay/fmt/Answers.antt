use Rattle.std.proofs.Common.{◌-◌, length, take, drop, arith, rules}
use Rattle.std.proofs.Output.{displays_on_ok_of_eq}
use Rattle.notation.proofs.ShownLaws.{list_none, listing_none, listing_more, listing_all}
use Rattle.notation.proofs.listed.ListedDisplay.fmt.Goals as goal

pub returns-in_default-clause-writes : goal.returns-in_default-clause-writes
returns-in_default-clause-writes g c =
    displays_on_ok_of_eq g.W.Write.write_str_gives c.args.f.now c.write.new.self c.write.result _ _
    (list_none g.T.Display.output c.args.self.now.mark c.args.self.now.items.now (search rules)) c.write.ensures.writes

pub loop-item-init : goal.loop-item-init
loop-item-init g c =
    listing_none g.T.Display.output c.args.self.now.mark g.W.Write.write_str_gives c.write-2.new.self
    (take (length c.args.self.now.items.now - 1) (drop 1 c.args.self.now.items.now))

pub loop-item-preserved : goal.loop-item-preserved
loop-item-preserved g c =
    listing_more g.T.Display.output c.args.self.now.mark g.W.Write.write_str_gives c.write-2.new.self
    (take (length c.args.self.now.items.now - 1) (drop 1 c.args.self.now.items.now)) c.loop-item.item-index c.loop-item.f c.write-in-loop-item.new.self
    c.item-item.result c.loop-item.invariant c.loop-item-test.true c.item-item.is c.in_ok-write-2.ensures.writes

pub returns-clause-writes : goal.returns-clause-writes
returns-clause-writes g c =
    listing_all g.T.Display.output c.args.self.now.mark g.W.Write.write_str_gives c.args.f.now c.write-2.new.self c.loop-item.f
    c.args.self.now.items.now c.loop-item.item-index c.first-item.result (search rules) c.first-item.is (omega arith)
    c.in_ok-write.ensures.writes c.loop-item.invariant
