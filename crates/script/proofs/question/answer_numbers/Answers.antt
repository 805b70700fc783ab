use Rattle.std.proofs.Common.{◌≡◌, length, ◌∙◌, subst, arith, rules}
use Rattle.notation.specs.Texts.{texts}
use Rattle.script.specs.Questions.{answer_reply, numbers_reply}
use Rattle.script.specs.Replies.{found}
use Rattle.script.specs.Stops.{Replies}
use Rattle.script.proofs.QuestionLaws.{placed_reply}
use Rattle.script.proofs.question.answer_numbers.Goals as goal

pub returns : goal.returns
returns g c = λ answer asks.
    let xs = g.G.ChunkGrid.axes c.args.grid.now in
    let read : answer_reply found (answer c.as_slice.result.now (length xs)) ≡ numbers_reply answer xs (texts c.args.arguments.words.now)
    = search rules in
    subst (Replies c.answered.result)
    (placed_reply found _ _ _ _ (length xs) _ (answer c.as_slice.result.now)
    c.deref_mut.ensures.len (omega arith) (c.in_ok-place.ensures.len ∙ c.dimensionality.ensures)
    (asks _ _ _ _ c.question-answer.ensures)
    ∙ read)
    c.answered.ensures
