use Rattle.std.proofs.Common.{◌≡◌, max, fold, arith, rules}
use Rattle.table_grids.proofs.LongestLaws.{longest_fold}
use Rattle.table_grids.proofs.span.Span.longest.Goals as goal

pub returns : goal.returns
returns c =
    let es = c.args.self.entries.now in
    let r : c.fold.result ≡ fold (λ m e. max e.size m) 0 es = search rules in
    let f = longest_fold es 0 in
    omega arith
