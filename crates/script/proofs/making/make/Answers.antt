use Rattle.std.proofs.Common.{arith, rules}
use Rattle.script.proofs.ArgumentLaws.{three_there}
use Rattle.script.proofs.StopLaws.{unread_stops}
use Rattle.script.proofs.making.make.Goals as goal

pub returns-in_err-sizes : goal.returns-in_err-sizes
returns-in_err-sizes c =
    let three = three_there c.args.arguments.words.now (omega arith) in
    rw (← three) (search (rules, unread_stops))
