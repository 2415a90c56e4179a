-- The arrays of graphs, and the graphs that they spell.
use Rattle.std.specs.{Prelude.{ℕ, List, [], ◌∷◌, ◌++◌, length, get_or, map, ℤ, pos, Result}, Global.{Vec}}
use Rattle.std.specs.List.{range_with_len}
use Rattle.dimacs_lines.specs.Limits.{IsNode}
use Rattle.dimacs_records.specs.declared.reasons.Reason.TheVariants.{NodeRange}
use Rattle.dimacs_network.specs.{declared.network.ArcView.{ArcView}, Arcs.{NetworkValue}, KeptArcs.{weight_arc}}
use Rattle.dimacs_instance.specs.Graph.{IsGraph}
use Rattle.dimacs_judging.specs.{declared.verdict.Verdict.{Verdict}, declared.verdict.Where.TheVariants.{Node}}
use Rattle.dimacs_judging.specs.{Rows.{one_test}, Tests.{Row}}
use Rattle.dimacs_decide.specs.{Claims.{claimed_by_node}, Predecessors.{pred_by_node}}
use Rattle.dimacs_arrays.specs.{declared.error.ArrayError.{ArrayError}, declared.lengths.ArrayLength.{ArrayLength}}
use Rattle.dimacs_arrays.specs.{declared.graph.GraphArrays.{GraphArrays}, Answers.{AnswersArrays, length_of}}
use Rattle.dimacs_arrays.specs.{declared.solve_paths.PathsSolved.{PathsSolved}, Limits.{count_rows, limit_row}}
use Rattle.dimacs_arrays.specs.Paths.{CertifiesByNode, JudgesByNode, SolvesByNode}
use Rattle.dimacs_arrays.specs.declared.error.Array.TheVariants as arrays

-- the arc with this index
abbrev pub weighted_arc : GraphArrays → ℕ → ArcView
weighted_arc a k = weight_arc (get_or a.tails.now k 0) (get_or a.heads.now k 0) (get_or a.weights.now k (pos 0))

-- the graph that the arrays spell; the number of tails is that of its arcs
abbrev pub graph_spelled : GraphArrays → NetworkValue
graph_spelled a = record { nodes = a.nodes; arcs = map (weighted_arc a) (range_with_len 0 (length a.tails.now)) }

-- a head and a weight for each arc
abbrev pub graph_lengths : GraphArrays → List ArrayLength
graph_lengths a = length_of arrays.Heads (length a.heads.now) (length a.tails.now) ∷ length_of arrays.Weights (length a.weights.now) (length a.tails.now) ∷ []

-- and a distance for each node
abbrev pub paths_lengths : GraphArrays → List ℤ → List ArrayLength
paths_lengths a distances = graph_lengths a ++ length_of arrays.Distances (length distances) a.nodes ∷ []

-- and a predecessor for each node
abbrev pub paths_judge_lengths : GraphArrays → List ℤ → List ℕ → List ArrayLength
paths_judge_lengths a distances preds =
    graph_lengths a ++ length_of arrays.Distances (length distances) a.nodes ∷ length_of arrays.Predecessors (length preds) a.nodes ∷ []

-- the source is no node
abbrev pub source_rows : ℕ → ℕ → List Row
source_rows nodes s = one_test (Node s) NodeRange (¬ IsNode nodes s) ∷ []

-- the limits of the counts, the source and each arc, in order
abbrev pub graph_limits : GraphArrays → ℕ → List Row
graph_limits a s = count_rows a.nodes (length a.tails.now) ++ (source_rows a.nodes s ++ limit_row a.nodes (graph_spelled a).arcs ∷ [])

-- the arrays spell a graph, and the source is one of its nodes
abbrev pub IsGraphFrom : GraphArrays → ℕ → Type 0
IsGraphFrom a s = IsGraph (graph_spelled a) × IsNode a.nodes s

-- the answers of judging, certifying and solving over the arrays
abbrev pub JudgesPathsArrays : GraphArrays → ℕ → List ℤ → List ℕ → Result Verdict ArrayError → Type 0
JudgesPathsArrays a s distances preds =
    AnswersArrays (paths_judge_lengths a distances preds) (graph_limits a s) (IsGraphFrom a s)
    (JudgesByNode (graph_spelled a) s (claimed_by_node distances) (pred_by_node preds))

abbrev pub CertifiesPathsArrays : GraphArrays → ℕ → List ℤ → Result (Vec ℕ) ArrayError → Type 0
CertifiesPathsArrays a s distances =
    AnswersArrays (paths_lengths a distances) (graph_limits a s) (IsGraphFrom a s) (CertifiesByNode (graph_spelled a) s (claimed_by_node distances))

abbrev pub SolvesPathsArrays : GraphArrays → ℕ → Result PathsSolved ArrayError → Type 0
SolvesPathsArrays a s = AnswersArrays (graph_lengths a) (graph_limits a s) (IsGraphFrom a s) (SolvesByNode (graph_spelled a) s)
