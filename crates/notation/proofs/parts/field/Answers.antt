use Rattle.std.proofs.Common.{Some, None, ap, ◌∙◌, refl, arith}
use Rattle.std.specs.Option.{option_map}
use Rattle.std.proofs.lemmas.Str.Pattern.{split_parts}
use Rattle.notation.proofs.WordLaws.{field_none, field_is}
use Rattle.notation.proofs.parts.field.Goals as goal

pub returns-in_err-key : goal.returns-in_err-key
returns-in_err-key c =
    ap (option_map (λ x. x.now)) c.from_residual.ensures ∙ field_none c.args.name.now c.args.word.now (split_parts 61 c.args.word.now None c.in_err-key.ensures.cases (omega arith))

pub returns : goal.returns
returns c =
    let name = c.args.name.now in
    let word = c.args.word.now in
    let key = c.in_ok-key.key in
    let value = c.in_ok-key.value in
    let cut = split_parts 61 word (Some (key, value)) c.in_ok-key.ensures.cases (omega arith) in
    ap (option_map (λ x. x.now)) c.then_some.ensures ∙ field_is name word key.now value.now cut.0 cut.1 c.eq.result value c.eq.ensures refl
