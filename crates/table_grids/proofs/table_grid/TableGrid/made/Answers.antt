use Rattle.std.proofs.Common.{rules}
use Rattle.table_grids.proofs.LaidLaws.{laid_accepted}
use Rattle.table_grids.proofs.table_grid.TableGrid.made.Goals as goal

pub returns-in-Ok-clause-laid : goal.returns-in-Ok-clause-laid
returns-in-Ok-clause-laid g c = laid_accepted g.R.SumRule.keeps _ _ _ _ _ (search rules)

pub returns-in-Err-clause-laid : goal.returns-in-Err-clause-laid
returns-in-Err-clause-laid g c = laid_accepted g.R.SumRule.keeps _ _ _ _ _ (search rules)
