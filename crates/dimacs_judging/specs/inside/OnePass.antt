-- Inside: one pass over the arcs for a yes.
use Rattle.std.specs.Prelude.{ℕ, ◌≡◌, ◌≢◌, ◌^◌, ◌==◌, ◌++◌, ◌∷◌, [], Bool, List, Option, ℤ, pos, ◌+ℤ◌, ◌-ℤ◌, ◌*ℤ◌}
use Rattle.dimacs_lines.specs.Limits.{IsNode}
use Rattle.dimacs_network.specs.declared.network.ArcView.{ArcView}
use Rattle.dimacs_records.specs.declared.reasons.Reason.{Reason}
use Rattle.dimacs_judging.specs.{declared.one_pass.NodeState.{NodeState}, declared.one_pass.Totals.{Totals}}
use Rattle.dimacs_judging.specs.{Flows.{when, net, cost}, FlowTests.{BoundFails, feasible_rows, cost_row}}
use Rattle.dimacs_judging.specs.{Potentials.{reduced_cost}, Rows.{flow_row}, Tests.{AllClear}, inside.Ranges.{IsOfSize}}

-- 1 for the members of a set, and 0 for others
abbrev pub indicator : (ℕ → Bool) → ℕ → ℤ
indicator set v = when (set v) (pos 1)

-- a node with this potential, and no arcs so far
abbrev pub state_with : ℤ → NodeState
state_with p = record { balance = pos 0; potential = p }

-- the states of nodes
abbrev pub States : Type 0
States = ℕ → NodeState

abbrev pub AreBlank : States → Type 0
AreBlank states = (v : ℕ) → states v ≡ state_with (pos 0)

-- the node has this state, and all others are as before
pub record SetsState (node : ℕ) (state : NodeState) (old new : States) : Type 0 where
  pub set : new node ≡ state
  pub others : (v : ℕ) → v ≢ node → new v ≡ old v

-- the node's balance has this more, and nothing else changes
pub record AddsAt (node : ℕ) (x : ℤ) (old new : States) : Type 0 where
  pub balances : (v : ℕ) → (new v).balance ≡ (old v).balance +ℤ when (node == v) x
  pub potentials : (v : ℕ) → (new v).potential ≡ (old v).potential

-- no arc was added, and the nodes have these potentials
pub record AreInitial (nodes : ℕ) (p : ℕ → ℤ) (states : States) (cost : ℤ) : Type 0 where
  pub balances : (v : ℕ) → (states v).balance ≡ pos 0
  pub potentials : (v : ℕ) → IsNode nodes v → (states v).potential ≡ p v
  pub none : cost ≡ pos 0

-- one more small cost fits
abbrev pub CostFitsOneMore : ℤ → Type 0
CostFitsOneMore cost = IsOfSize (2 ^ 97) cost

abbrev pub IsSmall : ℤ → ℤ → Type 0
IsSmall unit amount = IsOfSize (2 ^ 31) unit × IsOfSize (2 ^ 31) amount

-- a test of an arc with its reduced cost and its amount
abbrev pub ReducedTest : Type 1
ReducedTest = ℤ → ArcView → ℤ → Reason → Type 0

-- the arc keeps its bounds, and passes this test if this is its reduced cost
abbrev pub Passes : ReducedTest → ArcView → ℤ → ℤ → Type 0
Passes fails a x reduced = ((reason : Reason) → ¬ BoundFails a x reason) × ((reason : Reason) → ¬ fails reduced a x reason)

-- one more arc passes, and the sums are those with it
pub record AddsArc (fails : ReducedTest) (a : ArcView) (x : ℤ) (old new : States) (cost after : ℤ) : Type 0 where
  pub small : IsSmall a.cost x
  pub passes : Passes fails a x ((a.cost -ℤ (old a.tail).potential) +ℤ (old a.head).potential)
  pub balances : (v : ℕ) → (new v).balance ≡ ((old v).balance +ℤ when (a.tail == v) x) -ℤ when (a.head == v) x
  pub potentials : (v : ℕ) → (new v).potential ≡ (old v).potential
  pub cost_is : after ≡ cost +ℤ a.cost *ℤ x

-- all tests of a flow and of potentials pass, and these are a node's balance and the cost
pub record HavePassed (nodes : ℕ) (arcs : List ArcView) (demand : ℕ → Option ℤ) (p : ℕ → ℤ) (fails : ReducedTest) (x : List ℤ) (node : ℕ) (totals : Totals) : Type 0 where
  pub clear : AllClear (feasible_rows nodes arcs demand x ++ cost_row arcs x ∷ flow_row (λ a. fails (reduced_cost p a) a) arcs x ∷ [])
  pub balance_is : totals.balance ≡ net arcs x node
  pub cost_is : totals.cost ≡ cost arcs x
