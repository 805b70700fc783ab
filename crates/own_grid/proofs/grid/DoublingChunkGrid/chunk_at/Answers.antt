use Rattle.std.proofs.Common.{◌≡◌, ◌+◌, ◌-◌, ◌^◌, ◌<◌, ◌≤◌, arith, rules}
use borrow.Author.Tests.{tests}
use Rattle.std.proofs.lemmas.Iterator.{first_from_Range}
use Rattle.axes.specs.Axes.{chunk_of}
use Rattle.own_grid.specs.DoublingAxes.{doubling}
use Rattle.own_grid.proofs.DoublingLaws.{chunk_sought, asked_first}
use Rattle.own_grid.proofs.grid.DoublingChunkGrid.chunk_at.Goals as goal
use Rattle.own_grid.proofs.grid.DoublingChunkGrid.chunk_at.Goals.{After-find}

-- the chunk that is found
found : (c : After-find) → c.find.result ≡ chunk_of (doubling c.args.self.now.number) c.args.index
found c =
    chunk_sought _ _ c.find.result c.args.self.now.few
    (first_from_Range _ _ _ c.find.result (λ k. c.args.index < 2 ^ (k + 1) - 1) (λ k. 2 ^ (k + 1) - 1 ≤ c.args.index) c.find.ensures.ran
    (λ x q k. search (rules, tests)) (λ x q k. search (rules, tests)))

pub returns-in_err-chunk : goal.returns-in_err-chunk
returns-in_err-chunk c =
    let f = found (goal.at.returns-in_err-chunk c).After-find in
    let a = asked_first (doubling c.args.self.now.number) c.args.axis (λ x. chunk_of x c.args.index) (omega arith) in
    let w = c.in_err-chunk.was in
    cc

pub returns : goal.returns
returns c =
    let f = found (goal.at.returns c).After-find in
    let a = asked_first (doubling c.args.self.now.number) c.args.axis (λ x. chunk_of x c.args.index) (omega arith) in
    let w = c.in_ok-chunk.was in
    cc
