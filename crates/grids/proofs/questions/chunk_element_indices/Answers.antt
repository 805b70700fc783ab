use Rattle.std.proofs.Common.{rules}
use Rattle.grids.specs.Answers.{element_answer}
use Rattle.grids.proofs.FoundLaws.{placed_tells}
use Rattle.grids.proofs.questions.chunk_element_indices.Goals as goal

pub returns : goal.returns
returns g c =
    let e = c.answer_list.ensures element_answer (λ a k r l b p. search rules) in
    record { answer = e; placed = placed_tells _ (g.G.ChunkGrid.lawful c.args.grid.now) _ _ _ _ e }
