use Rattle.std.proofs.Common.{rules}
use Rattle.grids.specs.Answers.{edge_answer}
use Rattle.grids.proofs.GatheredLaws.{axis_by_axis}
use Rattle.grids.proofs.questions.chunk_shape.Goals as goal

pub returns : goal.returns
returns g c =
    let e = c.answer_list.ensures edge_answer (λ a k r l b p. search rules) in
    record { answer = e; by_axis = axis_by_axis edge_answer (g.G.ChunkGrid.axes c.args.grid.now) c.args.chunk.now c.args.place.now c.answer_list.new.place c.answer_list.result e }
