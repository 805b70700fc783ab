use Rattle.std.proofs.Common.{◌≡◌, length, ◌∙◌, subst, arith, rules}
use Rattle.grids.specs.Answers.{subset_answer}
use Rattle.notation.specs.Texts.{texts}
use Rattle.script.specs.Questions.{answer_reply, subset_reply}
use Rattle.script.specs.Replies.{bounds}
use Rattle.script.specs.Stops.{Replies}
use Rattle.script.proofs.QuestionLaws.{both_placed_reply}
use Rattle.script.proofs.question.answer_subset.Goals as goal

pub returns : goal.returns
returns g c =
    let xs = g.G.ChunkGrid.axes c.args.grid.now in
    let read : answer_reply (λ p. bounds p.0 p.1) (subset_answer xs c.as_slice.result.now (length xs) (length xs)) ≡ subset_reply xs (texts c.args.arguments.words.now)
    = search rules in
    subst (Replies c.answered.result)
    (both_placed_reply (λ p. bounds p.0 p.1) _ _ _ _ _ _ _ _ (length xs) _ (subset_answer xs c.as_slice.result.now)
    c.deref_mut.ensures.len (omega arith) (c.in_ok-origins.ensures.len ∙ c.dimensionality.ensures)
    c.deref_mut-2.ensures.len (omega arith) (c.in_ok-ends.ensures.len ∙ c.dimensionality-2.ensures) c.subset-answer.ensures
    ∙ read)
    c.answered.ensures
