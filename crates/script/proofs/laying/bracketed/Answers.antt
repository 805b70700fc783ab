use Rattle.std.proofs.Common.{Some, None, ap, ◌∙◌, arith}
use Rattle.std.specs.Option.{option_map}
use Rattle.std.proofs.lemmas.Str.Pattern.{strip_prefix_char, strip_suffix_char}
use Rattle.script.proofs.TableLaws.{closed_is, not_opened, opened}
use Rattle.script.proofs.laying.bracketed.Goals as goal

pub returns-in_err-strip_prefix : goal.returns-in_err-strip_prefix
returns-in_err-strip_prefix c =
    ap (option_map (λ x. x.now)) c.from_residual.ensures
    ∙ not_opened c.args.text.now (strip_prefix_char 91 c.args.text.now None c.in_err-strip_prefix.ensures.cases (omega arith))

pub returns : goal.returns
returns c =
    let rest = c.in_ok-strip_prefix.field-0 in
    closed_is rest.now c.strip_suffix.result (strip_suffix_char 93 rest.now c.strip_suffix.result c.strip_suffix.ensures.cases (omega arith))
    ∙ opened c.args.text.now rest.now (strip_prefix_char 91 c.args.text.now (Some rest) c.in_ok-strip_prefix.ensures.cases (omega arith))
