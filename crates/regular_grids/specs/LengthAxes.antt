use Rattle.std.specs.Prelude.{◌≡◌, ℕ, ◌*◌, ◌^◌, ◌<◌, ◌≤◌, cond, List, [], ◌∷◌, map, length, take, Some, None, Err, Option, Result, ◌==◌, nat_le, nat_lt, slice_index}
use Rattle.std.proofs.Common.{arith}
use Rattle.std.proofs.lemmas.List.{length-map, length-take}
use Rattle.edges.specs.declared.fault.Cause.{Cause}
use Rattle.edges.specs.declared.fault.Cause.TheVariants.{Length, Axes, Zero}
use Rattle.edges.specs.declared.fault.Fault.{Fault}
use Rattle.axes.specs.Axes.{Axis, LawfulAxis, Each, Lawful, rounded_up}
use Rattle.grids.specs.Places.{refused}
use Rattle.grids.specs.Making.{made_by}
use Rattle.regular_grids.specs.declared.lengths.Lengths.{Lengths}
use Rattle.regular_grids.specs.declared.lengths.AxisLengths.{AxisLengths}

-- The axis that a rule makes from a size and an edge.
abbrev pub axis_by : (ℕ → ℕ → Axis) → AxisLengths → Axis
axis_by rule x = rule x.size x.edge.number

abbrev pub length_axes : (ℕ → ℕ → Axis) → Lengths → List Axis
length_axes rule g = map (axis_by rule) (take g.number g.places)

-- What a rule keeps: its axes have the size and the rounded quotient for their count, and are lawful.
pub record RuleKept (rule : ℕ → ℕ → Axis) : Type 0 where
  pub size : (n s : ℕ) → (rule n s).size ≡ n
  pub count : (n s : ℕ) → (rule n s).count ≡ rounded_up n s
  pub lawful : (n s : ℕ) → 1 ≤ s → n < 2 ^ 64 → s < 2 ^ 64 → LawfulAxis (rule n s)

each_axis : (rule : ℕ → ℕ → Axis) → ((n s : ℕ) → 1 ≤ s → n < 2 ^ 64 → s < 2 ^ 64 → LawfulAxis (rule n s)) → (xs : List AxisLengths)
    → Each LawfulAxis (map (axis_by rule) xs)
each_axis rule lawful [] = tt
each_axis rule lawful (x ∷ xs) =
    (lawful x.size x.edge.number x.edge.positive x.size_fits x.edge_fits, each_axis rule lawful xs)

pub length_lawful : (rule : ℕ → ℕ → Axis) → ((n s : ℕ) → 1 ≤ s → n < 2 ^ 64 → s < 2 ^ 64 → LawfulAxis (rule n s)) → (g : Lengths)
    → Lawful (length_axes rule g)
length_lawful rule lawful g =
    let few = g.few in
    (simp (length-map, length-take) (omega arith), each_axis rule lawful (take g.number g.places))

-- where chunk k begins, below the number of chunks
abbrev pub start_below : ℕ → ℕ → ℕ → Option ℕ
start_below n s k = cond (nat_lt k (rounded_up n s)) (Some (k * s)) None

-- refusal 3 for an edge of 0
abbrev pub zero_edge : List ℕ → ℕ → Option Cause
zero_edge edges a = cond (slice_index edges a == 0) (Some Zero) None

-- What is made from sizes and edges: 1 if the lengths differ, 2 above 8 axes, 3 if an edge is 0.
abbrev pub new_lengths : (ℕ → ℕ → Axis) → List ℕ → List ℕ → Result (List Axis) Fault
new_lengths rule sizes edges =
    cond (length sizes == length edges)
    (cond (nat_le (length sizes) 8)
    (made_by (length sizes) (zero_edge edges) (λ a. rule (slice_index sizes a) (slice_index edges a)))
    (Err (refused Axes)))
    (Err (refused Length))
