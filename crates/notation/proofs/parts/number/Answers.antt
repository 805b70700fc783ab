use Rattle.std.proofs.Common.{◌∙◌, arith}
use Rattle.std.proofs.lemmas.Str.Pattern.{starts_char}
use Rattle.std.proofs.lemmas.Bool.{both_ways}
use Rattle.notation.proofs.WordLaws.{number_plus, number_plain}
use Rattle.notation.proofs.parts.number.Goals as goal

pub returns-then-starts_with : goal.returns-then-starts_with
returns-then-starts_with c =
    number_plus c.args.text.now ((starts_char 43 c.args.text.now c.starts_with.result c.starts_with.ensures.cases (omega arith) (omega arith)).0 c.if-starts_with.true)

pub returns : goal.returns
returns c =
    let plus = starts_char 43 c.args.text.now c.starts_with.result c.starts_with.ensures.cases (omega arith) (omega arith) in
    c.ok.ensures.value ∙ number_plain c.args.text.now c.parse.result c.parse.ensures.value.0 (λ e. both_ways c.starts_with.result c.if-starts_with.false (plus.1 e))
