-- The theorems: what certificates show of flows and of walks.
use Rattle.std.specs.Prelude.{ℕ, ◌≡◌, ◌≢◌, ◌<◌, Bool, List, All, length, ℤ, pos, ◌-ℤ◌, ◌*ℤ◌, ◌≤ℤ◌}
use Rattle.dimacs_network.specs.{declared.network.ArcView.{ArcView}, Arcs.{JoinsNodes, NetworkValue, arc_at}}
use Rattle.dimacs_instance.specs.{QueryTexts.{QueriesValue}, MaxFlows.{MaxValue}, MinFlows.{MinValue}}
use Rattle.dimacs_judging.specs.{Flows.{cost, net, sum_arcs, sum_nodes}, Feasible.{FeasibleMax, FeasibleMin}}
use Rattle.dimacs_judging.specs.{Cuts.{CutTight}, Optimum.{Maximum, Least, NoFlow}, Potentials.{Slack, reduced_cost}}
use Rattle.dimacs_judging.specs.{ViolatedSets.{Violated}, Rows.{amount_at}, Walks.{IsDistance}}
use Rattle.dimacs_judging.specs.{Labels.{LabelsOk, StaysNear}, PathsJudge.{PassesPaths, ShowsDistances}}
use Rattle.dimacs_lines.specs.Limits.{IsNode}
use Rattle.dimacs_claims.specs.Labels.{AreLabels, BlockValue, LabelsValue, PredsAreEarlier, label}

-- the sum exchange: balances times node weights, over the nodes, are amounts times weight differences, over the arcs
abbrev pub ExchangeLaw : Type 0
ExchangeLaw =
    (nodes : ℕ) (arcs : List ArcView) → All (JoinsNodes nodes) arcs → (y : List ℤ) (p : ℕ → ℤ)
    → sum_nodes (λ v. p v *ℤ net arcs y v) nodes ≡ sum_arcs (λ a x. x *ℤ (p a.tail -ℤ p a.head)) arcs y

-- a feasible flow with a tight cut is maximum
abbrev pub TightCutLaw : Type 0
TightCutLaw =
    (i : MaxValue) → All (JoinsNodes i.nodes) i.arcs → IsNode i.nodes i.source → (x : List ℤ) (set : ℕ → Bool)
    → FeasibleMax i x → CutTight i x set → Maximum i x

-- a feasible flow with slack potentials costs least
abbrev pub SlacknessLaw : Type 0
SlacknessLaw = (i : MinValue) → All (JoinsNodes i.nodes) i.arcs → (x : List ℤ) (p : ℕ → ℤ) → FeasibleMin i x → Slack i.arcs x p → Least i x

-- a flow that costs as little as one with slack potentials carries the same on each arc whose reduced cost isn't 0
abbrev pub SameCostLaw : Type 0
SameCostLaw =
    (i : MinValue) → All (JoinsNodes i.nodes) i.arcs → (x y : List ℤ) (p : ℕ → ℤ) → FeasibleMin i x → Slack i.arcs x p → FeasibleMin i y → cost i.arcs y ≤ℤ cost i.arcs x
    → (k : ℕ) → k < length i.arcs → reduced_cost p (arc_at i.arcs k) ≢ pos 0 → amount_at x k ≡ amount_at y k

-- if a set is violated, no flow is feasible
abbrev pub ViolatedSetLaw : Type 0
ViolatedSetLaw = (i : MinValue) → All (JoinsNodes i.nodes) i.arcs → (set : ℕ → Bool) → Violated i set → NoFlow i

-- labels that pass are distances; nodes without a label are unreachable, or beyond the radius if there is one
abbrev pub LabelsLaw : Type 0
LabelsLaw = (g : List ArcView) (b : BlockValue) → PredsAreEarlier b → StaysNear b → LabelsOk g b → (v : ℕ) → IsDistance g b.source v (label b v) b.radius

-- if labels and queries pass, the answers are distances
abbrev pub PassingShowsLaw : Type 0
PassingShowsLaw = (g : NetworkValue) (q : QueriesValue) (l : LabelsValue) → AreLabels l → PassesPaths g q l → ShowsDistances g q l
