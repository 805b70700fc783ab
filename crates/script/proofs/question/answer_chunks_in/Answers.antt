use Rattle.std.proofs.Common.{◌≡◌, length, ◌∙◌, subst, arith, rules}
use Rattle.grids.specs.Answers.{chunks_in_answer}
use Rattle.notation.specs.Texts.{texts}
use Rattle.script.specs.Questions.{answer_reply, chunks_in_reply}
use Rattle.script.specs.Replies.{chunks}
use Rattle.script.specs.Stops.{Replies}
use Rattle.script.proofs.ArgumentLaws.{two_there}
use Rattle.script.proofs.QuestionLaws.{both_placed_reply}
use Rattle.script.proofs.question.answer_chunks_in.Goals as goal

pub returns : goal.returns
returns g c =
    let xs = g.G.ChunkGrid.axes c.args.grid.now in
    let two = two_there c.args.arguments.words.now (omega arith) in
    let read : answer_reply (λ p. chunks p.0 p.1) (chunks_in_answer xs c.as_slice.result.now c.as_slice-2.result.now (length xs) (length xs)) ≡ chunks_in_reply xs (texts c.args.arguments.words.now)
    = rw (← two) (search rules) in
    subst (Replies c.answered.result)
    (both_placed_reply (λ p. chunks p.0 p.1) _ _ _ _ _ _ _ _ (length xs) _ (chunks_in_answer xs c.as_slice.result.now c.as_slice-2.result.now)
    c.deref_mut.ensures.len (omega (arith, c.chunks_in_array_subset-answer.auto.firsts, c.deref_mut.ensures.len)) (c.in_ok-firsts.ensures.len ∙ c.dimensionality.ensures)
    c.deref_mut-2.ensures.len (omega (arith, c.chunks_in_array_subset-answer.auto.counts, c.deref_mut-2.ensures.len)) (c.in_ok-counts.ensures.len ∙ c.dimensionality-2.ensures)
    c.chunks_in_array_subset-answer.ensures
    ∙ read)
    c.answered.ensures
