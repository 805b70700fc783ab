use Rattle.std.proofs.Common.{true, false, arith, rules}
use borrow.Author.Tests.{tests}
use Rattle.std.proofs.lemmas.Iterator.{YieldsList-from_slice, cases_from_all}
use Rattle.std.proofs.lemmas.Iterator.Consumers.{YieldsList-from_enumerate}
use Rattle.grids.proofs.InboundsLaws.{Is, inbounds_decided}
use Rattle.grids.proofs.questions.array_indices_inbounds.Goals as goal

pub returns-then-indices-dimensionality : goal.returns-then-indices-dimensionality
returns-then-indices-dimensionality g c =
    let xs = g.G.ChunkGrid.axes c.args.grid.now in
    inbounds_decided xs c.args.indices.now (omega arith) c.all.result
    (cases_from_all _ _ c.all.result (Is xs c.args.indices.now (omega arith) true) (Is xs c.args.indices.now (omega arith) false) c.all.ensures.ran
    (YieldsList-from_enumerate (YieldsList-from_slice c.args.indices.now (search rules)) (search rules))
    (λ x q k. search (rules, tests)) (λ x q k. search (rules, tests)))
