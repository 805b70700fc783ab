use Rattle.std.specs.Prelude.{ℕ, List, ◌++◌, codes, decimal}
use Rattle.edges.specs.declared.table.Run.{Run}
use Rattle.edges.specs.declared.table.Run.TheVariants.{Single, Repeated}
use Rattle.edges.specs.declared.table.OffsetSize.{OffsetSize}

-- What is written of a run: `3`, or `3x2` for edge 3, twice.
abbrev pub run_text : Run → List ℕ
run_text (Single e) = decimal e
run_text (Repeated e n) = decimal e ++ (codes "x" ++ decimal n)

-- What is written of an entry: `(6,5)` for offset 6, size 5.
abbrev pub entry_text : OffsetSize → List ℕ
entry_text e = codes "(" ++ (decimal e.offset ++ (codes "," ++ (decimal e.size ++ codes ")")))
