-- The tests of a flow: bounds, balances and cost.
use Rattle.std.specs.Prelude.{ℕ, ◌≡◌, ◌≢◌, ◌+◌, ◌<◌, ◌⊎◌, ◌==◌, if◌then◌else◌, List, [], ◌∷◌, length, take, Option, Some, None, Result, Ok, Err, ℤ, pos, ◌≤ℤ◌, ◌<ℤ◌}
use Rattle.dimacs_network.specs.{declared.network.ArcView.{ArcView}, Tables.{value_of}}
use Rattle.dimacs_records.specs.{declared.reasons.Reason.{Reason}, Ranges.{IsWide}}
use Rattle.dimacs_records.specs.declared.reasons.Reason.TheVariants.{BelowLow, AboveCap, Balance, CostRange}
use Rattle.dimacs_judging.specs.{Flows.{net, cost}, Rows.{arc_row, flow_row, node_row}, declared.verdict.Where.{Where}}
use Rattle.dimacs_judging.specs.{Tests.{Row, Clear, FirstOfRow}, declared.balances.Balances.{Balances}}
use Rattle.dimacs_instance.specs.{MaxFlows.{MaxValue}, MinFlows.{MinValue, supply_of}}

-- less than the lower bound, which is 0 in a maximum flow; otherwise more than the capacity
abbrev pub BoundFails : ArcView → ℤ → Reason → Type 0
BoundFails a x reason = ((reason ≡ BelowLow) × (x <ℤ a.low)) ⊎ ((reason ≡ AboveCap) × (a.low ≤ℤ x) × (a.cap <ℤ x))

abbrev pub bound_row : List ArcView → List ℤ → Row
bound_row arcs x = flow_row BoundFails arcs x

-- the balance isn't the demanded one
abbrev pub BalanceFails : Option ℤ → ℤ → Reason → Type 0
BalanceFails demand balance reason = (reason ≡ Balance) × ((d : ℤ) × (demand ≡ Some d) × (balance ≢ d))

abbrev pub balance_row : ℕ → List ArcView → (ℕ → Option ℤ) → List ℤ → Row
balance_row nodes arcs demand x = node_row nodes (λ v reason. BalanceFails (demand v) (net arcs x v) reason)

-- the balances of all nodes; 0 for nodes without arcs
abbrev pub AreBalances : List ArcView → List ℤ → Balances → Type 0
AreBalances arcs x balances = (v : ℕ) → value_of balances.sums v ≡ net arcs x v

-- the tests of a feasible flow
abbrev pub feasible_rows : ℕ → List ArcView → (ℕ → Option ℤ) → List ℤ → List Row
feasible_rows nodes arcs demand x = bound_row arcs x ∷ balance_row nodes arcs demand x ∷ []

-- source and sink may have any balance, every other node has to have 0
abbrev pub max_demand : MaxValue → ℕ → Option ℤ
max_demand i v = if v == i.source then None else (if v == i.sink then None else Some (pos 0))

-- every node has to have its supply
abbrev pub min_demand : MinValue → ℕ → Option ℤ
min_demand i v = Some (supply_of i v)

abbrev pub feasible_max_rows : MaxValue → List ℤ → List Row
feasible_max_rows i x = feasible_rows i.nodes i.arcs (max_demand i) x

abbrev pub feasible_min_rows : MinValue → List ℤ → List Row
feasible_min_rows i x = feasible_rows i.nodes i.arcs (min_demand i) x

-- the sum of the costs up to and with arc k
abbrev pub cost_through : List ArcView → List ℤ → ℕ → ℤ
cost_through arcs x k = cost (take (k + 1) arcs) (take (k + 1) x)

abbrev pub cost_row : List ArcView → List ℤ → Row
cost_row arcs x = arc_row arcs (λ k reason. (reason ≡ CostRange) × (¬ IsWide (cost_through arcs x k)))

-- the cost if the sums stay in range; otherwise the first arc at which they leave it
abbrev pub SumsCost : List ArcView → List ℤ → Result ℤ (Where × Reason) → Type 0
SumsCost arcs x (Ok sum) = (sum ≡ cost arcs x) × Clear (cost_row arcs x)
SumsCost arcs x (Err refusal) = FirstOfRow (cost_row arcs x) refusal.0 refusal.1

-- the sum of the costs up to some arc is out of range
abbrev pub LeavesCostRange : List ArcView → List ℤ → Type 0
LeavesCostRange arcs x = (k : ℕ) × (k < length arcs) × (¬ IsWide (cost_through arcs x k))
