use Rattle.std.proofs.Common.{◌+◌, length, take, refl, ap, ◌∙◌, arith, length-set}
use Rattle.grids.proofs.GatherLaws.{so_far, so_far_value, so_far_refused, gathered_none, gathered_more}
use Rattle.grids.proofs.GatheredLaws.{absent}
use Rattle.grids.proofs.gather.gather.Goals as goal
use Rattle.grids.proofs.gather.gather.Goals.{in-Ok-Some, in-Err}

pub loop-axis-init : goal.loop-axis-init
loop-axis-init g c = record { full = refl; answers = λ f h. gathered_none f }

pub loop-axis-preserved : goal.loop-axis-preserved
loop-axis-preserved g c =
    let e = c.loop-axis.invariant.full in
    record {
      full = elim c.match-ask.branch [ in-Ok-Some w ↦ ap length w.values-is ∙ simp length-set e | in-Err w ↦ ap length w.values-is ∙ e ];
      answers = λ f h.
          gathered_more f c.loop-axis.axis (so_far c.loop-axis.refused (take c.loop-axis.axis c.loop-axis.values))
          (so_far c.match-ask.refused (take (c.loop-axis.axis + 1) c.match-ask.values)) c.ask.result (c.loop-axis.invariant.answers f h)
          (h c.loop-axis.axis c.ask.result c.loop-axis-test.true c.ask.ensures)
          (elim c.match-ask.branch [
            | in-Ok-Some w ↦ let v = so_far_value c.loop-axis.refused c.loop-axis.axis w.in-Ok-Some.value c.loop-axis.values (omega arith) in cc
            | in-Err w ↦ let v = so_far_refused c.loop-axis.refused w.in-Err.fault (take (c.loop-axis.axis + 1) c.loop-axis.values) (take c.loop-axis.axis c.loop-axis.values) in cc
          ]);
    }

pub returns-in-Ok-None : goal.returns-in-Ok-None
returns-in-Ok-None g c = λ f h. let a = absent f _ c.loop-axis.axis c.loop-axis-test.true (let e = h c.loop-axis.axis c.ask.result c.loop-axis-test.true c.ask.ensures in cc) in cc
