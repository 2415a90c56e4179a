-- The arrays of maximum flow instances, and the instances that they spell.
use Rattle.std.specs.Prelude.{ℕ, ◌≡◌, ◌<◌, Bool, List, [], ◌∷◌, ◌++◌, length, get_or, map, ℤ, pos, ◌<ℤ◌, Result, Ok, Err}
use Rattle.std.specs.List.{range_with_len}
use Rattle.dimacs_lines.specs.Limits.{IsNode}
use Rattle.dimacs_records.specs.declared.reasons.Reason.TheVariants.{NodeRange, NodeTwice}
use Rattle.dimacs_network.specs.{declared.network.ArcView.{ArcView}, KeptArcs.{capacity_arc}}
use Rattle.dimacs_instance.specs.MaxFlows.{MaxValue, IsMax}
use Rattle.dimacs_judging.specs.{declared.verdict.JudgeError.{JudgeError}, declared.verdict.Verdict.{Verdict}}
use Rattle.dimacs_judging.specs.{declared.verdict.JudgeError.TheVariants.{Refused, Memory}, Optimum.{Maximum}}
use Rattle.dimacs_judging.specs.{declared.verdict.Verdict.TheVariants.{Max}, declared.verdict.Where.TheVariants.{Node}}
use Rattle.dimacs_judging.specs.{Feasible.{FeasibleMax, value}, FlowJudges.{ShowsMaxFlow, max_flow_rows}}
use Rattle.dimacs_judging.specs.{FlowTests.{feasible_max_rows}, Rows.{one_test}, Tests.{Judges, Row, Settles}}
use Rattle.dimacs_solve.specs.Climbing.{GivesUp}
use Rattle.dimacs_arrays.specs.{declared.error.ArrayError.{ArrayError}, declared.lengths.ArrayLength.{ArrayLength}}
use Rattle.dimacs_arrays.specs.{declared.max.MaxArrays.{MaxArrays}, declared.certify_max.MaxCertified.{MaxCertified}}
use Rattle.dimacs_arrays.specs.declared.certify_max.MaxCertified.TheVariants.{Optimal, Better}
use Rattle.dimacs_arrays.specs.{declared.solve_max.MaxSolved.{MaxSolved}, Answers.{AnswersArrays, length_of}}
use Rattle.dimacs_arrays.specs.{ByNode.{AreBits, marked}, Limits.{count_rows, limit_row}}
use Rattle.dimacs_arrays.specs.declared.error.Array.TheVariants as arrays
use Rattle.dimacs_arrays.specs.declared.solve_max.MaxSolved.TheVariants as solved

-- the arc with this index
abbrev pub max_arc : MaxArrays → ℕ → ArcView
max_arc a k = capacity_arc (get_or a.tails.now k 0) (get_or a.heads.now k 0) (get_or a.caps.now k (pos 0))

-- the instance that the arrays spell; the number of tails is that of its arcs
abbrev pub max_spelled : MaxArrays → MaxValue
max_spelled a = record { nodes = a.nodes; source = a.source; sink = a.sink; arcs = map (max_arc a) (range_with_len 0 (length a.tails.now)) }

-- a head and a capacity for each arc
abbrev pub max_lengths : MaxArrays → List ArrayLength
max_lengths a = length_of arrays.Heads (length a.heads.now) (length a.tails.now) ∷ length_of arrays.Caps (length a.caps.now) (length a.tails.now) ∷ []

-- and an amount for each arc
abbrev pub max_flow_lengths : MaxArrays → List ℤ → List ArrayLength
max_flow_lengths a flows = max_lengths a ++ length_of arrays.Flows (length flows) (length a.tails.now) ∷ []

-- and a byte for each node
abbrev pub max_judge_lengths : MaxArrays → List ℤ → List ℕ → List ArrayLength
max_judge_lengths a flows inside = max_flow_lengths a flows ++ length_of arrays.Inside (length inside) a.nodes ∷ []

-- the source or the sink is no node, or both are the same
abbrev pub end_rows : ℕ → ℕ → ℕ → List Row
end_rows nodes source sink =
    one_test (Node source) NodeRange (¬ IsNode nodes source)
    ∷ one_test (Node sink) NodeRange (¬ IsNode nodes sink)
    ∷ one_test (Node sink) NodeTwice (source ≡ sink) ∷ []

-- the limits of the counts, the ends and each arc, in order
abbrev pub max_limits : MaxArrays → List Row
max_limits a = count_rows a.nodes (length a.tails.now) ++ (end_rows a.nodes a.source a.sink ++ limit_row a.nodes (max_spelled a).arcs ∷ [])

-- the judge's answer about a flow and a cut: yes, with the flow's value, or the first test that fails
abbrev pub JudgesMaxFlow : MaxValue → List ℤ → (ℕ → Bool) → Result Verdict JudgeError → Type 0
JudgesMaxFlow i x inside = Judges (max_flow_rows i x inside) (ShowsMaxFlow i x inside) (λ verdict. verdict ≡ Max (value i x))

-- x is feasible but not maximum, and y is feasible with a greater value
pub record IsMaxFlowImproved (i : MaxValue) (x y : List ℤ) : Type 0 where
  pub claimed : FeasibleMax i x
  pub not_maximum : ¬ Maximum i x
  pub feasible : FeasibleMax i y
  pub greater : value i x <ℤ value i y

-- the flow is maximum by the cut of the marked nodes, has this value, and each byte is 0 or 1
abbrev pub IsMaxBy : MaxValue → List ℤ → ℤ → List ℕ → Type 0
IsMaxBy i x total inside = ShowsMaxFlow i x (marked inside) × (total ≡ value i x) × (length inside ≡ i.nodes) × AreBits inside

-- the flow is maximum by a cut, and has this value; or it isn't, and the other is better
abbrev pub CertifiesMaxFlow : MaxValue → List ℤ → MaxCertified → Type 0
CertifiesMaxFlow i x (Optimal total inside) = IsMaxBy i x total inside.items
CertifiesMaxFlow i x (Better y) = IsMaxFlowImproved i x y

-- a maximum flow with a cut, and its value; or none of `limit` flows is maximum; or out of memory, but no failed test
abbrev pub SolvesMaxFlow : MaxValue → ℕ → Result MaxSolved JudgeError → Type 0
SolvesMaxFlow i limit (Ok (solved.Optimal total x inside)) = (0 < limit) × IsMaxBy i x total inside.items
SolvesMaxFlow i limit (Ok solved.GaveUp) = GivesUp i limit
SolvesMaxFlow i limit (Err (Refused place reason)) = ⊥
SolvesMaxFlow i limit (Err Memory) = Unit

-- the answers of judging, certifying and solving over the arrays
abbrev pub JudgesMaxArrays : MaxArrays → List ℤ → List ℕ → Result Verdict ArrayError → Type 0
JudgesMaxArrays a flows inside =
    AnswersArrays (max_judge_lengths a flows inside) (max_limits a) (IsMax (max_spelled a)) (JudgesMaxFlow (max_spelled a) flows (marked inside))

abbrev pub CertifiesMaxArrays : MaxArrays → List ℤ → Result MaxCertified ArrayError → Type 0
CertifiesMaxArrays a flows =
    AnswersArrays (max_flow_lengths a flows) (max_limits a) (IsMax (max_spelled a))
    (Settles (CertifiesMaxFlow (max_spelled a) flows) (feasible_max_rows (max_spelled a) flows))

abbrev pub SolvesMaxArrays : MaxArrays → ℕ → Result MaxSolved ArrayError → Type 0
SolvesMaxArrays a limit = AnswersArrays (max_lengths a) (max_limits a) (IsMax (max_spelled a)) (SolvesMaxFlow (max_spelled a) limit)
