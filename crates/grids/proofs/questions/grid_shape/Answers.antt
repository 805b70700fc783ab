use Rattle.std.proofs.Common.{rules}
use Rattle.grids.specs.Answers.{count_answer}
use Rattle.grids.proofs.questions.grid_shape.Goals as goal

pub returns : goal.returns
returns g c = c.answer_shape.ensures (λ xs a k. count_answer xs a) (λ a k r l b p. search rules)
