use Rattle.std.proofs.Common.{Ok, ap, sym, ◌∙◌, subst}
use Rattle.notation.specs.Texts.{texts}
use Rattle.script.specs.declared.name.Command.TheVariants.{Ask}
use Rattle.script.specs.Lines.{current_axes, named_reply, named_axes, Becomes}
use Rattle.script.specs.Names.{command_named}
use Rattle.script.specs.Stops.{Replies, settled}
use Rattle.script.proofs.LineLaws.{unchanged}
use Rattle.script.proofs.StopLaws.{understood_is}
use Rattle.script.proofs.line.answer_command.Goals as goal

pub returns-in-Ask-clause-answer : goal.returns-in-Ask-clause-answer
returns-in-Ask-clause-answer c =
    let xs = current_axes c.args.current.now in
    let e = understood_is (command_named c.args.name.now) (Ask c.in-Ask.question) (sym (ap Ok c.in-Ask.is) ∙ c.in_ok-parse.ensures.value) in
    subst (λ o. Replies c.ask.result (named_reply xs o (texts c.args.arguments.words.now))) e c.ask.ensures

pub returns-in-Ask-clause-after : goal.returns-in-Ask-clause-after
returns-in-Ask-clause-after c =
    let xs = current_axes c.args.current.now in
    let e = understood_is (command_named c.args.name.now) (Ask c.in-Ask.question) (sym (ap Ok c.in-Ask.is) ∙ c.in_ok-parse.ensures.value) in
    subst (λ o. Becomes (settled c.ask.result) xs xs (named_axes xs o (texts c.args.arguments.words.now))) e (unchanged (settled c.ask.result) xs)
