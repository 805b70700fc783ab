use Rattle.std.proofs.Common.{◌≡◌, arith, ◌∙◌}
use Rattle.grids.proofs.ElementLaws.{found_origin}
use Rattle.grids.proofs.Never.{never}
use Rattle.grids.proofs.axis.element.Goals as goal

pub overflow_sub-result : goal.overflow_sub-result
overflow_sub-result g c =
    let (b, p, l, e) = found_origin (g.G.ChunkGrid.axes c.args.grid.now) c.args.axis c.args.index c.in_ok-chunk.chunk c.ranges.index.fits c.in_ok-chunk.ensures in
    let v = rw (c.origin.ensures ∙ p) at c.ok.ensures.value in
    let s : c.in_ok-origin.origin ≡ b = (let a = c.in_ok-ok.was in let d = c.in_ok-origin.was in cc) in
    omega arith

pub returns-in_err-ok : goal.returns-in_err-ok
returns-in_err-ok g c =
    let (b, p, l, e) = found_origin (g.G.ChunkGrid.axes c.args.grid.now) c.args.axis c.args.index c.in_ok-chunk.chunk c.ranges.index.fits c.in_ok-chunk.ensures in
    let v = rw (c.origin.ensures ∙ p) at c.ok.ensures.value in
    let a = c.in_err-ok.was in
    never (cc)

pub returns-in_err-origin : goal.returns-in_err-origin
returns-in_err-origin g c =
    let (b, p, l, e) = found_origin (g.G.ChunkGrid.axes c.args.grid.now) c.args.axis c.args.index c.in_ok-chunk.chunk c.ranges.index.fits c.in_ok-chunk.ensures in
    let v = rw (c.origin.ensures ∙ p) at c.ok.ensures.value in
    let a = c.in_ok-ok.was in
    let d = c.in_err-origin.was in
    never (cc)
