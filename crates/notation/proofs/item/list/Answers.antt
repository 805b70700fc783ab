use Rattle.std.proofs.Common.{rules}
use Rattle.notation.specs.Lists.{list_in}
use Rattle.notation.proofs.BackLaws.{written_is_read}
use Rattle.notation.proofs.item.list.Goals as goal

pub returns-then-eq : goal.returns-then-eq
unfolding list_in
returns-then-eq g c = record { list = search rules; back = written_is_read }

pub returns-in_err-words-clause-back : goal.returns-in_err-words-clause-back
returns-in_err-words-clause-back g c = written_is_read

pub returns : goal.returns
unfolding list_in
returns g c = record { list = search rules; back = written_is_read }
