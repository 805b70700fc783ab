use Rattle.std.proofs.Common.{length, Ok, Err, sym, ap, ◌∙◌, subst, arith}
use Rattle.std.proofs.lemmas.Result.{err_from_is_err_and}
use Rattle.edges.specs.Answers.{counted, placed, Shortest}
use Rattle.edges.proofs.JoinLaws.{runs_ok, runs_err, place_short, place_enough}
use Rattle.edges.proofs.ShortestLaw.{shortest_law}
use Rattle.edges.proofs.compressing.compress.Goals as goal

pub returns-in_err-number : goal.returns-in_err-number
returns-in_err-number c =
    let p = err_from_is_err_and c.from_residual.result c.from_residual.ensures.1 in
    let q = runs_err c.args.edges.now (length c.args.place.now) c.in_err-number.field-0.0 c.in_err-number.ensures in
    record {
      answer = p.1 ∙ ap Err p.2 ∙ sym (ap counted q);
      after = sym (ap (λ a. placed a c.args.place.now) q);
      shortest = subst (λ r. Shortest c.args.edges.now r c.args.place.now) (sym p.1) tt;
    }

pub returns-then-number-place : goal.returns-then-number-place
returns-then-number-place c =
    let q = place_short c.args.edges.now (length c.args.place.now) c.in_ok-number.number c.in_ok-number.ensures (omega arith) in
    record { answer = ap Err c.new.ensures ∙ sym (ap counted q); after = sym (ap (λ a. placed a c.args.place.now) q); shortest = tt }

pub write_runs-requires : goal.write_runs-requires
write_runs-requires c =
    let k = runs_ok c.args.edges.now c.in_ok-number.number c.in_ok-number.ensures in
    let n = k.1 in
    record { edges = k.0; room = omega arith }

pub returns : goal.returns
returns c =
    let q = place_enough c.args.edges.now (length c.args.place.now) c.in_ok-number.number c.in_ok-number.ensures (omega arith) in
    let n = (runs_ok c.args.edges.now c.in_ok-number.number c.in_ok-number.ensures).1 in
    record {
      answer = ap Ok n ∙ sym (ap counted q);
      after = c.write_runs.ensures ∙ sym (ap (λ a. placed a c.args.place.now) q);
      shortest = shortest_law c.args.edges.now c.in_ok-number.number c.args.place.now c.write_runs.new.place n c.write_runs.ensures;
    }
