use Rattle.std.proofs.Common.{◌+◌, ◌-◌, ◌*◌, ◌^◌, ◌<◌, length, replicate, Ok, Err, sym, ap, ◌∙◌, subst, arith, rules}
use borrow.Rule.Slice.PartMut.{put_mid}
use Rattle.std.proofs.lemmas.Result.{err_from_is_err_and}
use Rattle.edges.specs.declared.table.Run.TheVariants.{Single, Repeated}
use Rattle.edges.specs.Answers.{counted, placed, Laid}
use Rattle.edges.specs.Runs.{offsets, expand}
use Rattle.edges.proofs.LayLaws.{number_ok, number_err, too_short, room_enough, laying_none, Laying, Here, matched_here, laying_more, laying_all, laid_law, length-offsets, part_length, same_product}
use Rattle.edges.proofs.laying.lay.Goals as goal
use Rattle.edges.proofs.laying.lay.Goals.{Joined-run, in-Single, in-Repeated}

-- the run of this turn
here : (c : Joined-run) → Here c.args.runs.now c.args.table.now c.loop-run.run-index c.loop-run.at c.loop-run.offset c.match-run.length
here c =
    let at-run = matched_here c.args.runs.now c.args.table.now c.loop-run.run-index c.loop-run.at c.loop-run.offset c.loop-run.table c.loop-run.invariant c.loop-run-test.true in
    elim c.match-run.branch [
      | in-Single w ↦ at-run (Single w.in-Single.length) c.match-run.length w.in-Single.is w.length-is
      | in-Repeated w ↦ at-run (Repeated w.in-Repeated.length w.in-Repeated.number) c.match-run.length w.in-Repeated.is w.length-is
    ]

pub returns-in_err-entries : goal.returns-in_err-entries
returns-in_err-entries c =
    let p = err_from_is_err_and c.from_residual.result c.from_residual.ensures.1 in
    let q = number_err c.args.runs.now (length c.args.table.now) c.in_err-entries.field-0.0 c.in_err-entries.ensures in
    record {
      answer = p.1 ∙ ap Err p.2 ∙ sym (ap counted q);
      after = sym (ap (λ a. placed a c.args.table.now) q);
      laid = subst (λ r. Laid c.args.runs.now r c.args.table.now) (sym p.1) tt;
    }

pub returns-then-entries-table : goal.returns-then-entries-table
returns-then-entries-table c =
    let q = too_short c.args.runs.now (length c.args.table.now) c.in_ok-entries.entries c.in_ok-entries.ensures (omega arith) in
    record { answer = ap Err c.new.ensures ∙ sym (ap counted q); after = sym (ap (λ a. placed a c.args.table.now) q); laid = tt }

pub loop-run-init : goal.loop-run-init
loop-run-init c =
    laying_none c.args.runs.now c.args.table.now c.in_ok-entries.entries c.in_ok-entries.ensures (omega arith)

pub invariant_of-edge : goal.invariant_of-edge
invariant_of-edge c = record { positive = (here (goal.at.invariant_of-edge c).Joined-run).some_edge }

pub invariant_of-count : goal.invariant_of-count
invariant_of-count c = record { positive = (here (goal.at.invariant_of-count c).Joined-run).some_count }

pub overflow_add-end : goal.overflow_add-end
overflow_add-end c = let r = (here (goal.at.overflow_add-end c).Joined-run).room in let g = c.get.ensures in omega arith

pub slice_bounds-lay_run-end : goal.slice_bounds-lay_run-end
slice_bounds-lay_run-end c = let r = (here (goal.at.slice_bounds-lay_run-end c).Joined-run).room in let g = c.get.ensures in search rules

pub lay_run-requires : goal.lay_run-requires
lay_run-requires c =
    let h = here (goal.at.lay_run-requires c).Joined-run in
    let g = c.get.ensures in
    let e = part_length c.loop-run.at c.get.result c.loop-run.table (let r = h.room in omega arith) in
    subst (λ n. c.loop-run.offset + c.match-run.length.0 * n < 2 ^ 64) (sym (e ∙ g)) h.fits

pub overflow_mul-offset : goal.overflow_mul-offset
overflow_mul-offset c =
    let r = (here (goal.at.overflow_mul-offset c).Joined-run).fits in
    let q = same_product c.get-in-loop-run.ensures c.get-in-loop-run-2.ensures in
    omega arith

pub overflow_add-offset : goal.overflow_add-offset
overflow_add-offset c =
    let r = (here (goal.at.overflow_add-offset c).Joined-run).fits in
    let q = same_product c.get-in-loop-run.ensures c.get-in-loop-run-2.ensures in
    omega arith

pub loop-run-preserved : goal.loop-run-preserved
loop-run-preserved c =
    let h = here (goal.at.loop-run-preserved c).Joined-run in
    let g = c.get.ensures in
    let e = part_length c.loop-run.at c.get.result c.loop-run.table (let r = h.room in omega arith) in
    let f = laying_more c.args.runs.now c.args.table.now c.loop-run.run-index c.loop-run.at c.loop-run.offset c.loop-run.table c.loop-run.invariant c.loop-run-test.true
    c.match-run.length.0 c.get.result h.edge (g ∙ h.count) (omega arith)
    (c.loop-run.at + c.get.result - c.loop-run.at) c.lay_run.new.place (omega arith)
    (c.lay_run.ensures ∙ ap (λ n. offsets c.loop-run.offset (replicate n c.match-run.length.0)) e) in
    subst (λ o. Laying c.args.runs.now c.args.table.now (c.loop-run.run-index + 1) (c.loop-run.at + c.get.result) (c.loop-run.offset + o)
    (put_mid c.loop-run.at (c.loop-run.at + c.get.result - c.loop-run.at) c.loop-run.table c.lay_run.new.place))
    (same_product (sym c.get-in-loop-run.ensures) (g ∙ sym c.get-in-loop-run-2.ensures)) f

pub returns : goal.returns
returns c =
    let q = room_enough c.args.runs.now (length c.args.table.now) c.in_ok-entries.entries c.in_ok-entries.ensures (omega arith) in
    let n = (number_ok c.args.runs.now c.in_ok-entries.entries c.in_ok-entries.ensures).2 in
    let t = laying_all c.args.runs.now c.args.table.now c.loop-run.run-index c.loop-run.at c.loop-run.offset c.loop-run.table c.loop-run.invariant (omega arith) in
    record {
      answer = ap Ok (n ∙ sym (length-offsets 0 (expand c.args.runs.now))) ∙ sym (ap counted q);
      after = t ∙ sym (ap (λ a. placed a c.args.table.now) q);
      laid = laid_law c.args.runs.now c.in_ok-entries.entries c.args.table.now c.loop-run.table n t;
    }
