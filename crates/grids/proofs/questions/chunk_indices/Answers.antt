use Rattle.std.proofs.Common.{rules}
use Rattle.grids.specs.Answers.{chunk_answer}
use Rattle.grids.proofs.FoundLaws.{found_tells}
use Rattle.grids.proofs.questions.chunk_indices.Goals as goal

pub returns : goal.returns
returns g c =
    let e = c.answer_list.ensures chunk_answer (λ a k r l b p. search rules) in
    record { answer = e; found = found_tells _ (g.G.ChunkGrid.lawful c.args.grid.now) _ _ _ _ e }
