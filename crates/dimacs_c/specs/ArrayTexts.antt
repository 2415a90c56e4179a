-- What calls that write arrays as texts, or read a solution over arrays, hand out.
use Rattle.std.specs.Prelude.{ℕ, ℤ, ◌≡◌, [], Result, Ok, Err, pos}
use Rattle.dimacs_network.specs.Arcs.{NetworkValue}
use Rattle.dimacs_instance.specs.{Graph.{canonical_graph}, MaxFlows.{MaxValue}, MaxTexts.{canonical_max}}
use Rattle.dimacs_instance.specs.{MinFlows.{MinValue}, MinTexts.{canonical_min}, declared.queries.Queries.{Queries}}
use Rattle.dimacs_instance.specs.QueryTexts.{asked, canonical_queries}
use Rattle.dimacs_claims.specs.{Cuts.{CutValue, canonical_cut}, DistanceTexts.{canonical_distances}}
use Rattle.dimacs_claims.specs.{Labels.{LabelsValue}, LabelTexts.{canonical_labels}}
use Rattle.dimacs_claims.specs.{declared.solution.Solution.{Solution}, SolutionTexts.{canonical_solution, claimed}}
use Rattle.dimacs_claims.specs.Potentials.{PotentialsValue, canonical_potentials}
use Rattle.dimacs_arrays.specs.{declared.error.ArrayError.{ArrayError}, declared.solution.ClaimedFlow.{ClaimedFlow}}
use Rattle.dimacs_c.specs.Arrays.{Buffers, HandsOutAll, Printed, only, printed}

-- the canonical texts of what arrays spell
abbrev pub max_text : MaxValue → Printed
max_text m = only 0 (canonical_max m)

abbrev pub min_text : MinValue → Printed
min_text m = only 0 (canonical_min m)

abbrev pub graph_text : NetworkValue → Printed
graph_text g = only 0 (canonical_graph g)

abbrev pub cut_text : CutValue → Printed
cut_text c = only 0 (canonical_cut c)

abbrev pub potentials_text : PotentialsValue → Printed
potentials_text p = only 0 (canonical_potentials p)

abbrev pub queries_text : Queries → Printed
queries_text queries = only 0 (canonical_queries (asked queries))

abbrev pub distances_text : LabelsValue → Printed
distances_text d = only 0 (canonical_distances d)

abbrev pub labels_text : LabelsValue → Printed
labels_text labels = only 0 (canonical_labels labels)

abbrev pub solution_text : Solution → Printed
solution_text s = only 0 (canonical_solution (claimed s))

-- the claimed flow, without a line
abbrev pub flow_read : ClaimedFlow → Printed
flow_read c = record (only 0 []) { amounts = c.flow }

-- the claimed value; 0 after an error
abbrev pub value_read : Result ClaimedFlow ArrayError → ℤ
value_read (Ok c) = c.value
value_read (Err error) = pos 0

-- a possible answer is handed out, with its status and the value
abbrev pub AnswersClaim : (Result ClaimedFlow ArrayError → Type 0) → ℕ → ℤ → Buffers → Type 0
AnswersClaim gives exit_status value all =
    (r : Result ClaimedFlow ArrayError) × gives r × (exit_status ≡ (printed flow_read r).status) × HandsOutAll (printed flow_read r) all × (value ≡ value_read r)
