use Rattle.std.proofs.Common.{replicate, ap, ◌∙◌, rules}
use Rattle.memory_stores.proofs.Rows.{fills}
use Rattle.memory_stores.proofs.row.clear.Goals as goal

pub returns : goal.returns
returns g c =
    fills _ g.E.Element.blank _ (λ x f' k. (search rules, search rules)) _ _ c.fill_with.ensures.ran.1
    ∙ ap (λ n. replicate n g.E.Element.blank) c.fill_with.ensures.len
