use Rattle.std.proofs.Common.{Some, vec_items, codes, decimal, sym, refl, ap, ◌∙◌}
use lib.Utf8.{encode}
use Rattle.std.proofs.Output.{displays_on_ok_of_eq}
use Rattle.edges.specs.Texts.{run_text, entry_text}
use Rattle.script.specs.Replies.{meant, reply_text}
use Rattle.notation.proofs.ShownLaws.{counted_text, named_text, paired_text}
use Rattle.script.proofs.answer.AnswerDisplay.fmt.Goals as goal

pub returns-in-Entries-clause-writes : goal.returns-in-Entries-clause-writes
unfolding encode
returns-in-Entries-clause-writes g c =
    displays_on_ok_of_eq g.W.Write.write_str_gives c.args.f.now c.write.new.self c.write.result _ (Some (reply_text (meant c.args.self.now)))
    (counted_text entry_text 32 refl c.len-number.result (codes " entries ") 32 c.as_slice-items.result.now (vec_items c.in-Entries.entries) refl c.as_slice-items.ensures.value
    (c.len-number.ensures ∙ c.in-Entries.entries.ok.0)
    ∙ sym (ap (λ a. Some (reply_text (meant a))) c.in-Entries.is))
    c.write.ensures.writes

pub returns-in-Runs-clause-writes : goal.returns-in-Runs-clause-writes
unfolding encode
returns-in-Runs-clause-writes g c =
    let list = c.commas-list in
    displays_on_ok_of_eq g.W.Write.write_str_gives c.args.f.now c.write-in-Runs.new.self c.write-in-Runs.result _ (Some (reply_text (meant c.args.self.now)))
    (counted_text run_text 44 refl c.len-number-in-Runs.result (codes " runs ") list.result.mark list.result.items.now (vec_items c.in-Runs.runs) list.ensures.mark
    (list.ensures.items ∙ c.as_slice.ensures.value) (c.len-number-in-Runs.ensures ∙ c.in-Runs.runs.ok.0)
    ∙ sym (ap (λ a. Some (reply_text (meant a))) c.in-Runs.is))
    c.write-in-Runs.ensures.writes

pub returns-in-Found-clause-writes : goal.returns-in-Found-clause-writes
unfolding encode
returns-in-Found-clause-writes g c =
    displays_on_ok_of_eq g.W.Write.write_str_gives c.args.f.now c.write-in-Found.new.self c.write-in-Found.result _ (Some (reply_text (meant c.args.self.now)))
    (named_text decimal 44 refl (codes "some ") c.commas.result.mark c.commas.result.items.now (vec_items c.in-Found.values) c.commas.ensures.mark
    (c.commas.ensures.items ∙ c.as_slice-in-Found.ensures.value)
    ∙ sym (ap (λ a. Some (reply_text (meant a))) c.in-Found.is))
    c.write-in-Found.ensures.writes

pub returns-in-Bounds-clause-writes : goal.returns-in-Bounds-clause-writes
unfolding encode
returns-in-Bounds-clause-writes g c =
    let first = c.commas-first in
    let second = c.commas-second in
    displays_on_ok_of_eq g.W.Write.write_str_gives c.args.f.now c.write-in-Bounds.new.self c.write-in-Bounds.result _ (Some (reply_text (meant c.args.self.now)))
    (paired_text decimal 44 refl (codes "some ") (codes " to ") first.result.mark second.result.mark first.result.items.now second.result.items.now
    (vec_items c.in-Bounds.origins) (vec_items c.in-Bounds.ends) first.ensures.mark second.ensures.mark
    (first.ensures.items ∙ c.as_slice-in-Bounds.ensures.value) (second.ensures.items ∙ c.as_slice-in-Bounds-2.ensures.value)
    ∙ sym (ap (λ a. Some (reply_text (meant a))) c.in-Bounds.is))
    c.write-in-Bounds.ensures.writes

pub returns-in-Chunks-clause-writes : goal.returns-in-Chunks-clause-writes
unfolding encode
returns-in-Chunks-clause-writes g c =
    let first = c.commas-first-in-Chunks in
    let second = c.commas-second-in-Chunks in
    displays_on_ok_of_eq g.W.Write.write_str_gives c.args.f.now c.write-in-Chunks.new.self c.write-in-Chunks.result _ (Some (reply_text (meant c.args.self.now)))
    (paired_text decimal 44 refl (codes "some ") (codes " shape ") first.result.mark second.result.mark first.result.items.now second.result.items.now
    (vec_items c.in-Chunks.firsts) (vec_items c.in-Chunks.counts) first.ensures.mark second.ensures.mark
    (first.ensures.items ∙ c.as_slice-in-Chunks.ensures.value) (second.ensures.items ∙ c.as_slice-in-Chunks-2.ensures.value)
    ∙ sym (ap (λ a. Some (reply_text (meant a))) c.in-Chunks.is))
    c.write-in-Chunks.ensures.writes
