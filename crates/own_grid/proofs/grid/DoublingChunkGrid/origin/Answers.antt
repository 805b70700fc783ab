use Rattle.std.proofs.Common.{ℕ, ◌-◌, Some, Ok, ap, ◌∙◌}
use Rattle.own_grid.proofs.DoublingLaws.{origin_by_edge}
use Rattle.own_grid.proofs.grid.DoublingChunkGrid.origin.Goals as goal

pub returns : goal.returns
returns c =
    ap (λ (e : ℕ). Ok (Some (e - 1))) c.get.ensures
    ∙ origin_by_edge c.args.self.now.number c.args.axis c.args.chunk _ c.args.self.now.few c.in-Some.ensures
