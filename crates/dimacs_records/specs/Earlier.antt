-- The earlier records of a text.
use Rattle.std.specs.Prelude.{ℕ, ◌==◌, Bool, true, false, List, [], ◌∷◌, Option, Some, None, is_some, length, nat_lt, nat_le}
use Rattle.std.specs.List.{filter}
use Rattle.dimacs_records.specs.{declared.order.Declared.{Declared}, declared.records.End.{End}}
use Rattle.dimacs_records.specs.{declared.records.End.TheVariants.{Source, Sink}, declared.records.Record.{Record}}
use Rattle.dimacs_records.specs.declared.records.QueryKind.{QueryKind}
use Rattle.dimacs_records.specs.declared.records.QueryKind.TheVariants.{Sources, Pairs}
use Rattle.dimacs_records.specs.declared.records.Record.TheVariants.{MaxProblem, MaxNode, MaxArc, MinProblem, MinNode, MinArc, GraphProblem, GraphArc, QueriesProblem, SourceQuery, PairQuery, SolutionValue, CutProblem, CutNode, PotentialsProblem, PotentialsNode, LabelsProblem, LabelsBlock, DistancesProblem, DistancesBlock}

-- what a problem line declares; queries have no NODES
abbrev pub declares : ℕ → ℕ → Option Declared
declares nodes count = Some (record { nodes = Some nodes; count = count })

abbrev pub problem_of : Record → Option Declared
problem_of (MaxProblem nodes arcs) = declares nodes arcs
problem_of (MinProblem nodes arcs) = declares nodes arcs
problem_of (GraphProblem nodes arcs) = declares nodes arcs
problem_of (QueriesProblem asks count) = Some (record { nodes = None; count = count })
problem_of (CutProblem nodes count) = declares nodes count
problem_of (PotentialsProblem nodes count) = declares nodes count
problem_of (LabelsProblem nodes blocks) = declares nodes blocks
problem_of (DistancesProblem nodes blocks) = declares nodes blocks
problem_of r = None

abbrev pub is_problem : Record → Bool
is_problem r = is_some (problem_of r)

abbrev pub or_else : {X : Type 0} → Option X → Option X → Option X
or_else None other = other
or_else (Some x) other = Some x

-- the problem line of a text
abbrev pub problem_in : List Record → Option Declared
problem_in [] = None
problem_in (r ∷ rs) = or_else (problem_of r) (problem_in rs)

-- there is a value, and it passes the test
abbrev pub is_some_and : {X : Type 0} → (X → Bool) → Option X → Bool
is_some_and f None = false
is_some_and f (Some x) = f x

-- the ID is above NODES
abbrev pub is_above : Option Declared → ℕ → Bool
is_above p id = is_some_and (λ (q : Declared). is_some_and (λ (nodes : ℕ). nat_lt nodes id) q.nodes) p

-- no fewer than declared
abbrev pub is_full : Option Declared → ℕ → Bool
is_full p n = is_some_and (λ (q : Declared). nat_le q.count n) p

-- fewer than declared
abbrev pub is_short : Option Declared → ℕ → Bool
is_short p n = is_some_and (λ (q : Declared). nat_lt n q.count) p

-- the problem line counts this line
abbrev pub is_counted : Record → Bool
is_counted (MaxArc tail head cap) = true
is_counted (MinArc tail head low cap cost) = true
is_counted (GraphArc tail head weight) = true
is_counted (SourceQuery id) = true
is_counted (PairQuery from to) = true
is_counted (CutNode id) = true
is_counted (PotentialsNode id value) = true
is_counted (LabelsBlock source count radius) = true
is_counted (DistancesBlock source count) = true
is_counted r = false

abbrev pub counted_in : List Record → ℕ
counted_in rs = length (filter is_counted rs)

-- the problem line of queries of this kind
abbrev pub asks_for : QueryKind → Record → Bool
asks_for Sources (QueriesProblem Sources count) = true
asks_for Pairs (QueriesProblem Pairs count) = true
asks_for asks r = false

-- the line has this node as its own: a node line, or the `t` line of a block
abbrev pub names : ℕ → Record → Bool
names id (MaxNode other end) = other == id
names id (MinNode other supply) = other == id
names id (CutNode other) = other == id
names id (PotentialsNode other value) = other == id
names id (LabelsBlock source count radius) = source == id
names id (DistancesBlock source count) = source == id
names id r = false

abbrev pub is_max_node : Record → Bool
is_max_node (MaxNode id end) = true
is_max_node r = false

-- the node line of this end
abbrev pub is_end_node : End → Record → Bool
is_end_node Source (MaxNode id Source) = true
is_end_node Sink (MaxNode id Sink) = true
is_end_node end r = false

-- an arc line of a flow instance
abbrev pub is_flow_arc : Record → Bool
is_flow_arc (MaxArc tail head cap) = true
is_flow_arc (MinArc tail head low cap cost) = true
is_flow_arc r = false

-- the line of a solution's value
abbrev pub is_value : Record → Bool
is_value (SolutionValue value) = true
is_value r = false
