use Rattle.std.proofs.Common.{List, Ok, Err, Result, refl}
use Rattle.axes.specs.Axes.{Axis}
use Rattle.script.specs.Lines.{Becomes}

-- a grid that stays as it is
pub unchanged : {A E : Type 0} (r : Result A E) (xs : List Axis) → Becomes r xs xs xs
unchanged (Ok x) xs = refl
unchanged (Err x) xs = refl
