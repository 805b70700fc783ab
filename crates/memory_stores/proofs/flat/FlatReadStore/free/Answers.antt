use Rattle.std.proofs.Common.{◌+◌, Bool, false, not, List, length, take, count_by, sym, ap, ◌∙◌, arith}
use Rattle.std.proofs.lemmas.List.{length-take, take_all}
use Rattle.std.proofs.lemmas.List.Sums.{count_by_more_yes, count_by_more_no}
use Rattle.memory_stores.specs.Extents.{flat_marks}
use Rattle.memory_stores.proofs.OfFlat.{flat_free}
use Rattle.memory_stores.proofs.flat.FlatReadStore.free.Goals as goal
use Rattle.memory_stores.proofs.flat.FlatReadStore.free.Goals.{then-not-mark, else-not-mark}

pub slice_bounds-mark-items-end : goal.slice_bounds-mark-items-end
slice_bounds-mark-items-end g c =
    let s = c.args.self.now in
    omega (arith, length-take {A = Bool}, flat_marks s.width (length s.values.now) (length s.marks.now))

pub overflow_add-free : goal.overflow_add-free
overflow_add-free g c = omega (arith, length-take {A = Bool})

pub loop-mark-preserved : goal.loop-mark-preserved
loop-mark-preserved g c =
    let marks : List Bool = take c.limit-limit.result c.args.self.now.marks.now in
    let i = c.loop-mark.mark-index in
    elim c.if-not-mark.branch [
      | then-not-mark w ↦ (
        w.free-is ∙ ap (λ n. n + 1) c.loop-mark.invariant.0 ∙ sym (count_by_more_yes not marks i false (omega arith) (ap not w.if-not-mark.true)),
        omega arith,
      )
      | else-not-mark w ↦ (
        w.free-is ∙ c.loop-mark.invariant.0 ∙ sym (count_by_more_no not marks i false (omega arith) (ap not w.if-not-mark.false)),
        omega arith,
      )
    ]

pub returns : goal.returns
returns g c =
    let s = c.args.self.now in
    let marks : List Bool = take c.limit-limit.result s.marks.now in
    let counted = c.loop-mark.invariant.0 ∙ ap (count_by not) (take_all c.loop-mark.mark-index marks (omega arith)) in
    flat_free g.E.Element.blank s.values.now s.marks.now s.width c.loop-mark.free (rw (← c.limit-limit.ensures) counted)
