use Rattle.std.specs.Prelude.{◌≡◌, ℕ, ◌^◌, ◌<◌, List, map, Some, decimal}
use Rattle.std.specs.List.{AllByRecursion}
use Rattle.edges.specs.Runs.{run_edge, run_count}
use Rattle.edges.specs.Texts.{run_text}
use Rattle.edges.specs.declared.table.Run.{Run}
use Rattle.notation.specs.Texts.{number_in}
use Rattle.notation.specs.Lists.{list_in, list_text, run_in}

abbrev pub Small : ℕ → Type 0
Small n = n < 2 ^ 64

abbrev pub SmallRun : Run → Type 0
SmallRun r = Small (run_edge r) × Small (run_count r)

-- What is written of a list is read as that list: of numbers, and of runs.
abbrev pub WrittenIsRead : Type 0
WrittenIsRead =
    ((es : List ℕ) → AllByRecursion Small es → list_in number_in (list_text 44 (map decimal es)) ≡ Some es)
    × ((rs : List Run) → AllByRecursion SmallRun rs → list_in run_in (list_text 44 (map run_text rs)) ≡ Some rs)
