use Rattle.std.proofs.Common.{◌≡◌, [], ◌∷◌, length, slice_index, sym, ap₂, ◌∙◌, rules, arith}
use Rattle.grids.specs.Answers.{both, chunk_answer, number_answer}
use Rattle.grids.proofs.GatherLaws.{gives_sized}
use Rattle.grids.proofs.RegionLaws.{positive_at, ends_within, asked_region}
use Rattle.grids.proofs.questions.chunks_in_array_subset.Goals as goal

pub gather-requires-2 : goal.gather-requires-2
gather-requires-2 g c =
    let few = (g.G.ChunkGrid.lawful c.args.grid.now).0 in
    record {
      few = omega arith;
      can_ask = λ a l. (
        λ κs p h r s u. omega arith,
        λ κs p h r s u f. omega arith,
        λ κs p h r s u f v κt m. (
          positive_at c.args.shape.now a (sym c.has_zero.ensures ∙ c.if-has_zero.false) (omega arith),
          ends_within c.args.start.now c.args.shape.now (length c.args.shape.now) a _ c.in_ok-ends_fit.ensures (omega arith),
        ),
      );
    }

pub returns : goal.returns
returns g c =
    let xs = g.G.ChunkGrid.axes c.args.grid.now in
    let is = c.args.start.now in
    let ns = c.args.shape.now in
    let li : length is ≡ length xs = omega arith in
    let ln : length ns ≡ length xs = omega arith in
    let lf : length c.args.firsts.now ≡ length xs = omega arith in
    let lc : length c.args.counts.now ≡ length xs = omega arith in
    let f = c.gather.ensures (λ a. chunk_answer xs a (slice_index is a)) (λ a r l p. search rules) in
    let n = c.gather-2.ensures (λ a. number_answer xs a (slice_index is a) (slice_index ns a)) (λ a r l p. search rules) in
    gives_sized (length xs) (length is ∷ length ns ∷ length c.args.firsts.now ∷ length c.args.counts.now ∷ []) _ _ _ _ _ (li, (ln, (lf, (lc, tt))))
    (ap₂ both (cc) (cc) ∙ asked_region is ns (length ns) (length xs) c.in_ok-ends_fit.field-0 _ _ ln (sym c.has_zero.ensures ∙ c.if-has_zero.false) c.in_ok-ends_fit.ensures)
    c.write_both.ensures
