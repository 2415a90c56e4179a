-- The arrays of minimum cost flow instances, and the instances that they spell.
use Rattle.std.specs.Prelude.{ℕ, ◌≡◌, ◌<◌, Bool, List, [], ◌∷◌, ◌++◌, length, get_or, map, ℤ, pos, ◌^◌, ◌+ℤ◌, ◌<ℤ◌, ◌≤ℤ◌, Result, Ok, Err}
use Rattle.std.specs.{List.{range_with_len, zip}, Ordering.{nat_cmp}, FinMap.{FinMap, from_entries}}
use Rattle.dimacs_records.specs.{NodeValues.{without_zeros}, Ranges.{IsWide}}
use Rattle.dimacs_lines.specs.Limits.{IsNode}
use Rattle.dimacs_claims.specs.Potentials.{PotentialsValue, potential_of}
use Rattle.dimacs_network.specs.{declared.network.ArcView.{ArcView}, KeptArcs.{cost_arc}}
use Rattle.dimacs_instance.specs.MinFlows.{MinValue, IsMin}
use Rattle.dimacs_judging.specs.{declared.verdict.JudgeError.{JudgeError}, declared.verdict.Verdict.{Verdict}}
use Rattle.dimacs_judging.specs.{declared.verdict.JudgeError.TheVariants.{Refused, Memory}, Feasible.{FeasibleMin}}
use Rattle.dimacs_judging.specs.{declared.verdict.Verdict.TheVariants.{Infeasible, Min}, Flows.{cost}}
use Rattle.dimacs_judging.specs.{CertificateTests.{violated_row}, FlowTests.{feasible_min_rows, cost_row, cost_through}}
use Rattle.dimacs_judging.specs.{Optimum.{Least, NoFlow}, FlowJudges.{ShowsMinFlow, min_flow_rows}}
use Rattle.dimacs_judging.specs.{Tests.{Judges, Row, Settles}, ViolatedSets.{Violated}}
use Rattle.dimacs_solve.specs.Descending.{GivesUpMin, start_flow}
use Rattle.dimacs_arrays.specs.{declared.error.ArrayError.{ArrayError}, declared.lengths.ArrayLength.{ArrayLength}}
use Rattle.dimacs_arrays.specs.{declared.min.MinArrays.{MinArrays}, declared.certify_min.MinCertified.{MinCertified}}
use Rattle.dimacs_arrays.specs.declared.certify_infeasible.InfeasibleCertified.{InfeasibleCertified}
use Rattle.dimacs_arrays.specs.declared.certify_min.MinCertified.TheVariants.{Optimal, Wide, Better}
use Rattle.dimacs_arrays.specs.{declared.solve_min.MinSolved.{MinSolved}, Answers.{AnswersArrays, length_of}}
use Rattle.dimacs_arrays.specs.{ByNode.{AreBits, marked, number_of}, Limits.{count_rows, limit_row}}
use Rattle.dimacs_arrays.specs.declared.error.Array.TheVariants as arrays
use Rattle.dimacs_arrays.specs.declared.certify_infeasible.InfeasibleCertified.TheVariants as certified
use Rattle.dimacs_arrays.specs.declared.solve_min.MinSolved.TheVariants as solved

abbrev pub min_arc : MinArrays → ℕ → ArcView
min_arc a k =
    cost_arc (get_or a.tails.now k 0) (get_or a.heads.now k 0) (get_or a.lows.now k (pos 0)) (get_or a.caps.now k (pos 0)) (get_or a.costs.now k (pos 0))

-- the nodes with supplies other than 0
abbrev pub supplies_by_node : List ℤ → FinMap nat_cmp ℤ
supplies_by_node supplies = without_zeros (from_entries (zip (range_with_len 1 (length supplies)) supplies))

-- the instance that the arrays spell; the number of tails is that of its arcs
abbrev pub min_spelled : MinArrays → MinValue
min_spelled a = record { nodes = a.nodes; supplies = supplies_by_node a.supplies.now; arcs = map (min_arc a) (range_with_len 0 (length a.tails.now)) }

-- a head, a lower bound, a capacity and a cost for each arc, and a supply for each node
abbrev pub min_lengths : MinArrays → List ArrayLength
min_lengths a =
    let arcs = length a.tails.now in
    length_of arrays.Heads (length a.heads.now) arcs ∷ length_of arrays.Lows (length a.lows.now) arcs ∷ length_of arrays.Caps (length a.caps.now) arcs
    ∷ length_of arrays.Costs (length a.costs.now) arcs ∷ length_of arrays.Supplies (length a.supplies.now) a.nodes ∷ []

-- and an amount for each arc
abbrev pub min_flow_lengths : MinArrays → List ℤ → List ArrayLength
min_flow_lengths a flows = min_lengths a ++ length_of arrays.Flows (length flows) (length a.tails.now) ∷ []

-- and a potential for each node
abbrev pub min_judge_lengths : MinArrays → List ℤ → List ℤ → List ArrayLength
min_judge_lengths a flows potentials = min_flow_lengths a flows ++ length_of arrays.Potentials (length potentials) a.nodes ∷ []

-- or only a byte for each node
abbrev pub infeasible_lengths : MinArrays → List ℕ → List ArrayLength
infeasible_lengths a inside = min_lengths a ++ length_of arrays.Inside (length inside) a.nodes ∷ []

-- the limits of the counts and each arc, in order
abbrev pub min_limits : MinArrays → List Row
min_limits a = count_rows a.nodes (length a.tails.now) ++ limit_row a.nodes (min_spelled a).arcs ∷ []

-- the judge's answer about a flow and potentials: yes, with the flow's cost, or the first test that fails
abbrev pub JudgesMinFlow : MinValue → List ℤ → (ℕ → ℤ) → Result Verdict JudgeError → Type 0
JudgesMinFlow i x p = Judges (min_flow_rows i x p) (ShowsMinFlow i x p) (λ verdict. verdict ≡ Min (cost i.arcs x))

-- x is feasible, its sums of costs stay in range, but it isn't least; y is feasible and costs less
pub record IsMinFlowImproved (i : MinValue) (x y : List ℤ) : Type 0 where
  pub claimed : FeasibleMin i x
  pub costs_wide : (k : ℕ) → k < length i.arcs → IsWide (cost_through i.arcs x k)
  pub not_least : ¬ Least i x
  pub feasible : FeasibleMin i y
  pub less : cost i.arcs y <ℤ cost i.arcs x

-- two potentials are so far apart that they don't both fit into 64 bits, whatever is added to all
abbrev pub IsWider : PotentialsValue → Type 0
IsWider p = (v : ℕ) × (w : ℕ) × IsNode p.nodes v × IsNode p.nodes w × ((potential_of p w +ℤ pos (2 ^ 64)) ≤ℤ potential_of p v)

-- the flow costs least by these potentials, in an array, and has this cost
abbrev pub IsMinBy : MinValue → List ℤ → ℤ → List ℤ → Type 0
IsMinBy i x total potentials = ShowsMinFlow i x (number_of potentials) × (total ≡ cost i.arcs x) × (length potentials ≡ i.nodes)

-- the same by potentials that don't fit into an array
abbrev pub IsMinByWider : MinValue → List ℤ → ℤ → PotentialsValue → Type 0
IsMinByWider i x total p = ShowsMinFlow i x (potential_of p) × (total ≡ cost i.arcs x) × (p.nodes ≡ i.nodes) × IsWider p

-- the flow costs least by potentials, and has this cost; or it doesn't, and the other is better
abbrev pub CertifiesMinFlow : MinValue → List ℤ → MinCertified → Type 0
CertifiesMinFlow i x (Optimal total potentials) = IsMinBy i x total potentials.items
CertifiesMinFlow i x (Wide total p) = IsMinByWider i x total p
CertifiesMinFlow i x (Better y) = IsMinFlowImproved i x y

-- the tests of a flow before those of the certificate, in order
abbrev pub min_claimed_rows : MinValue → List ℤ → List Row
min_claimed_rows i x = feasible_min_rows i x ++ cost_row i.arcs x ∷ []

-- the set is violated, and no flow is feasible
abbrev pub ShowsInfeasible : MinValue → (ℕ → Bool) → Type 0
ShowsInfeasible i set = Violated i set × NoFlow i

-- the judge's answer about a set of nodes: yes, or the test that fails
abbrev pub JudgesInfeasible : MinValue → (ℕ → Bool) → Result Verdict JudgeError → Type 0
JudgesInfeasible i set = Judges (violated_row i set ∷ []) (ShowsInfeasible i set) (λ verdict. verdict ≡ Infeasible)

-- the marked nodes show that no flow is feasible, and each byte is 0 or 1
abbrev pub IsInfeasibleBy : MinValue → List ℕ → Type 0
IsInfeasibleBy i inside = ShowsInfeasible i (marked inside) × (length inside ≡ i.nodes) × AreBits inside

-- no flow is feasible, by marked nodes; or this flow is
abbrev pub CertifiesInfeasible : MinValue → InfeasibleCertified → Type 0
CertifiesInfeasible i (certified.Infeasible inside) = IsInfeasibleBy i inside.items
CertifiesInfeasible i (certified.Feasible x) = FeasibleMin i x

-- a least flow by potentials (with `limit` 0 the start flow), marked nodes of a violated set, or giving up; no refusal
abbrev pub SolvesMinFlow : MinValue → ℕ → Result MinSolved JudgeError → Type 0
SolvesMinFlow i limit (Ok (solved.Optimal total x potentials)) = IsMinBy i x total potentials.items × (limit ≡ 0 → x ≡ start_flow i.arcs)
SolvesMinFlow i limit (Ok (solved.Wide total x p)) = IsMinByWider i x total p × (limit ≡ 0 → x ≡ start_flow i.arcs)
SolvesMinFlow i limit (Ok (solved.Infeasible inside)) = IsInfeasibleBy i inside.items
SolvesMinFlow i limit (Ok solved.GaveUp) = GivesUpMin i limit
SolvesMinFlow i limit (Err (Refused place reason)) = ⊥
SolvesMinFlow i limit (Err Memory) = Unit

-- the answers of judging, certifying and solving over the arrays
abbrev pub JudgesMinArrays : MinArrays → List ℤ → List ℤ → Result Verdict ArrayError → Type 0
JudgesMinArrays a flows potentials =
    AnswersArrays (min_judge_lengths a flows potentials) (min_limits a) (IsMin (min_spelled a)) (JudgesMinFlow (min_spelled a) flows (number_of potentials))

abbrev pub JudgesInfeasibleArrays : MinArrays → List ℕ → Result Verdict ArrayError → Type 0
JudgesInfeasibleArrays a inside =
    AnswersArrays (infeasible_lengths a inside) (min_limits a) (IsMin (min_spelled a)) (JudgesInfeasible (min_spelled a) (marked inside))

abbrev pub CertifiesInfeasibleArrays : MinArrays → Result InfeasibleCertified ArrayError → Type 0
CertifiesInfeasibleArrays a = AnswersArrays (min_lengths a) (min_limits a) (IsMin (min_spelled a)) (Settles (CertifiesInfeasible (min_spelled a)) [])

abbrev pub CertifiesMinArrays : MinArrays → List ℤ → Result MinCertified ArrayError → Type 0
CertifiesMinArrays a flows =
    AnswersArrays (min_flow_lengths a flows) (min_limits a) (IsMin (min_spelled a))
    (Settles (CertifiesMinFlow (min_spelled a) flows) (min_claimed_rows (min_spelled a) flows))

abbrev pub SolvesMinArrays : MinArrays → ℕ → Result MinSolved ArrayError → Type 0
SolvesMinArrays a limit = AnswersArrays (min_lengths a) (min_limits a) (IsMin (min_spelled a)) (SolvesMinFlow (min_spelled a) limit)
