use Rattle.std.proofs.Common.{rules}
use Rattle.grids.specs.Answers.{origin_answer}
use Rattle.grids.proofs.GatheredLaws.{axis_by_axis}
use Rattle.grids.proofs.questions.chunk_origin.Goals as goal

pub returns : goal.returns
returns g c =
    let e = c.answer_list.ensures origin_answer (λ a k r l b p. search rules) in
    record { answer = e; by_axis = axis_by_axis origin_answer (g.G.ChunkGrid.axes c.args.grid.now) c.args.chunk.now c.args.place.now c.answer_list.new.place c.answer_list.result e }
