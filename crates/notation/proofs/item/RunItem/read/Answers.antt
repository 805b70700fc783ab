use Rattle.std.proofs.Common.{arith}
use Rattle.std.proofs.lemmas.Grind.{common_steps}
use Rattle.notation.proofs.ListLaws.{run_whole, run_cut}
use Rattle.notation.proofs.item.RunItem.read.Goals as goal

pub returns-in_err-number-in-None : goal.returns-in_err-number-in-None
returns-in_err-number-in-None c = grind (arith, common_steps, run_whole)

pub returns-in_ok-number-in-None : goal.returns-in_ok-number-in-None
returns-in_ok-number-in-None c = grind (arith, common_steps, run_whole)

pub returns-in_err-number-in-Some : goal.returns-in_err-number-in-Some
returns-in_err-number-in-Some c = let e = run_cut c.args.text.now c.in-Some.edge c.in-Some.count c.in-Some.ensures.cases in grind (arith, common_steps)

pub returns-in_err-number-in-Some-2 : goal.returns-in_err-number-in-Some-2
returns-in_err-number-in-Some-2 c = let e = run_cut c.args.text.now c.in-Some.edge c.in-Some.count c.in-Some.ensures.cases in grind (arith, common_steps)

pub returns-in_ok-number-in-Some-2 : goal.returns-in_ok-number-in-Some-2
returns-in_ok-number-in-Some-2 c = let e = run_cut c.args.text.now c.in-Some.edge c.in-Some.count c.in-Some.ensures.cases in grind (arith, common_steps)
