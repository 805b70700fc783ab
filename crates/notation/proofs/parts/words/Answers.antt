use Rattle.std.proofs.Common.{ap, ◌∙◌, rules, eqb, length, not}
use Rattle.std.proofs.lemmas.Fn.{filter_same}
use Rattle.notation.specs.Texts.{texts, filled}
use Rattle.notation.proofs.WordLaws.{filled_is}
use Rattle.notation.proofs.parts.words.Goals as goal

pub returns : goal.returns
returns c =
    ap texts (c.shrink_to_fit.ensures.items ∙ filter_same _ (λ x. not (eqb (length x.now) 0)) _ (λ x b f' k. search rules) _ _ c.retain.ensures.filtered)
    ∙ filled_is c.in_ok-words.words.items ∙ ap filled c.in_ok-words.ensures
