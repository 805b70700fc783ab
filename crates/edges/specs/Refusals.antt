use Rattle.std.specs.Prelude.{ℕ, cond, List, ◌++◌, Ok, Err, codes, decimal, Result, ◌==◌}
use Rattle.edges.specs.declared.fault.Cause.{Cause}
use Rattle.edges.specs.declared.fault.Cause.TheVariants.{Length, Axes, Zero, Sum, Overflow, Short, Outside, Values, Full, Shut, Range}
use Rattle.edges.specs.declared.fault.Layer.{Layer}
use Rattle.edges.specs.declared.fault.Layer.TheVariants.{Edges, Grid, Sheet, Store}
use Rattle.edges.specs.declared.fault.Fault.{Fault}

-- The number of a cause.
abbrev pub cause_number : Cause → ℕ
cause_number Length = 1
cause_number Axes = 2
cause_number Zero = 3
cause_number Sum = 4
cause_number Overflow = 5
cause_number Short = 6
cause_number Outside = 7
cause_number Values = 8
cause_number Full = 9
cause_number Shut = 10
cause_number Range = 11

-- The number of a layer.
abbrev pub layer_number : Layer → ℕ
layer_number Edges = 1
layer_number Grid = 2
layer_number Sheet = 3
layer_number Store = 4

-- A refusal that names no axis: 255 stands for none.
abbrev pub refusal : Cause → Layer → Fault
refusal c l = record { cause = c; layer = l; axis = 255 }

-- A refusal that names an axis.
abbrev pub axis_refusal : Cause → Layer → ℕ → Fault
axis_refusal c l a = record { cause = c; layer = l; axis = a }

-- A refusal of the layer of edges.
abbrev pub edges_refusal : Cause → Fault
edges_refusal c = refusal c Edges

-- What is made of a number that must not be 0.
abbrev pub positive_answer : ℕ → Result ℕ Fault
positive_answer n = cond (n == 0) (Err (edges_refusal Zero)) (Ok n)

-- An answer seen through a function.
abbrev pub mapped : {A B : Type 0} → (A → B) → Result A Fault → Result B Fault
mapped f (Ok x) = Ok (f x)
mapped f (Err e) = Err e

-- What is written of a refusal: `refused 5 layer 2 axis 1`, and no axis where it is 255.
abbrev pub fault_text : Fault → List ℕ
fault_text f =
    cond (f.axis == 255)
    (codes "refused " ++ (decimal (cause_number f.cause) ++ (codes " layer " ++ decimal (layer_number f.layer))))
    (codes "refused " ++ (decimal (cause_number f.cause) ++ (codes " layer " ++ (decimal (layer_number f.layer) ++ (codes " axis " ++ decimal f.axis)))))
