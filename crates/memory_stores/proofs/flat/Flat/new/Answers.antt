use Rattle.std.proofs.Common.{◌≡◌, ◌≤◌, Bool, ◌++◌, length, drop, refl, ap, ◌∙◌, arith, rules}
use Rattle.std.proofs.lemmas.List.{length-append, length-drop, length-take, length-take-le}
use Rattle.memory_stores.specs.Extents.{flat_limit, flat_marks}
use Rattle.memory_stores.specs.Meanings.{new_flat, marks_cleared}
use Rattle.memory_stores.proofs.OfFlat.{flat_empty}
use Rattle.memory_stores.proofs.flat.Flat.new.Goals as goal

pub slice_bounds-fill-end : goal.slice_bounds-fill-end
slice_bounds-fill-end g c = omega (arith, flat_marks c.args.width (length c.args.values.now) (length c.args.marks.now))

pub slice_bounds-fill-end-2 : goal.slice_bounds-fill-end-2
slice_bounds-fill-end-2 g c = omega (arith, length-take {A = Bool}, flat_marks c.args.width (length c.args.values.now) (length c.args.marks.now))

pub returns : goal.returns
returns g c =
    let v = g.E.Element.blank in
    let xs = c.args.values.now in
    let ms = c.args.marks.now in
    let w = c.args.width in
    let n = c.flat_limit-limit.result in
    let few : n ≤ length ms = omega (arith, flat_marks w (length xs) (length ms)) in
    let filled : c.fill.new.self ++ drop n ms ≡ marks_cleared n ms = search rules in
    let long : length (c.fill.new.self ++ drop n ms) ≡ length ms =
    simp (length-append, length-drop) (omega (arith, c.fill.ensures.len, length-take-le n ms few)) in
    record {
      held =
          flat_empty v xs (c.fill.new.self ++ drop n ms) w n (drop n ms) (omega (arith, ap (flat_limit w (length xs)) long)) filled
          ∙ ap (λ m. new_flat v (length xs) m w) long;
      values = refl;
      marks = filled ∙ ap (λ k. marks_cleared k ms) c.flat_limit-limit.ensures;
    }
