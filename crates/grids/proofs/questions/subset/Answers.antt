use Rattle.std.proofs.Common.{◌≡◌, [], ◌∷◌, length, slice_index, ap₂, rules, arith}
use Rattle.grids.specs.Answers.{both, origin_answer, end_answer}
use Rattle.grids.proofs.GatherLaws.{gives_sized}
use Rattle.grids.proofs.questions.subset.Goals as goal

pub returns : goal.returns
returns g c =
    let xs = g.G.ChunkGrid.axes c.args.grid.now in
    let ks = c.args.chunk.now in
    let lk : length ks ≡ length xs = omega arith in
    let lo : length c.args.origins.now ≡ length xs = omega arith in
    let le : length c.args.ends.now ≡ length xs = omega arith in
    let o = c.gather.ensures (λ a. origin_answer xs a (slice_index ks a)) (λ a r l p. search rules) in
    let e = c.gather-2.ensures (λ a. end_answer xs a (slice_index ks a)) (λ a r l p. search rules) in
    gives_sized (length xs) (length ks ∷ length c.args.origins.now ∷ length c.args.ends.now ∷ []) _ _ _ _ _ (lk, (lo, (le, tt)))
    (ap₂ both (cc) (cc)) c.write_both.ensures
