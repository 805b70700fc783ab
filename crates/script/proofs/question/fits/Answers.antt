use Rattle.std.proofs.Common.{arith, rules}
use Rattle.std.proofs.lemmas.Bool.Decides.{same_from_decides}
use Rattle.axes.specs.Fitting.{fits_test}
use Rattle.axes.proofs.FitLaws.{fits_decided}
use Rattle.script.proofs.ArgumentLaws.{two_there}
use Rattle.script.proofs.question.fits.Goals as goal

pub returns : goal.returns
returns g c =
    let xs = g.G.ChunkGrid.axes c.args.grid.now in
    let e = same_from_decides c.fits.result (fits_test xs c.in_ok-limit.limit c.in_ok-width.width) c.fits.ensures (fits_decided xs c.in_ok-limit.limit c.in_ok-width.width) in
    let two = two_there c.args.words.now (omega arith) in
    rw (e, ← two) (search rules)
