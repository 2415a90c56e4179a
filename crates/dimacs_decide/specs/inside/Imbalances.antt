-- Inside: the imbalances of nodes.
use Rattle.std.specs.Prelude.{ℕ, ◌≡◌, ◌≢◌, ◌<◌, ◌≤◌, Bool, true, List, ℤ, pos, ◌≤ℤ◌, ◌<ℤ◌}
use Rattle.dimacs_instance.specs.MinFlows.{MinValue}
use Rattle.dimacs_lines.specs.Limits.{IsNode}
use Rattle.dimacs_network.specs.{declared.network.ArcView.{ArcView}, Arcs.{arc_at}, Tables.{value_of}}
use Rattle.dimacs_decide.specs.FeasibilityDecision.{DecidesFeasible, imbalance_at}
use Rattle.dimacs_decide.specs.declared.feasible.NodeTest.{NodeTest}
use Rattle.dimacs_decide.specs.declared.imbalance.ImbalanceSigns.{ImbalanceSigns}
use Rattle.dimacs_decide.specs.declared.imbalance.ImbalanceSigns.TheVariants.{Even, Excess, Deficit}
use Rattle.dimacs_decide.specs.declared.feasible.NodeTest.TheVariants as looks

abbrev pub AreImbalances : MinValue → List ℤ → (ℕ → ℤ) → Type 0
AreImbalances i x imbalance = (v : ℕ) → IsNode i.nodes v → imbalance v ≡ imbalance_at i x v

-- no node below this one has excess: none has a deficit, or some do; or some node has excess
abbrev pub AreSigns : ℕ → ℕ → (ℕ → ℤ) → ImbalanceSigns → Type 0
AreSigns nodes id imbalance Even = (v : ℕ) → 1 ≤ v → v < id → imbalance v ≡ pos 0
AreSigns nodes id imbalance Deficit = ((v : ℕ) → 1 ≤ v → v < id → imbalance v ≤ℤ pos 0) × ((v : ℕ) × IsNode nodes v × (imbalance v <ℤ pos 0))
AreSigns nodes id imbalance Excess = (v : ℕ) × IsNode nodes v × (pos 0 <ℤ imbalance v)

-- the ends of the first n arcs are in the set
abbrev pub HasEnds : List ArcView → ℕ → (ℕ → Bool) → Type 0
HasEnds arcs n set = (k : ℕ) → k < n → (set (arc_at arcs k).tail ≡ true) × (set (arc_at arcs k).head ≡ true)

-- the nodes below this one that have a deficit are in the set
abbrev pub HasDeficits : ℕ → (ℕ → ℤ) → (ℕ → Bool) → Type 0
HasDeficits id imbalance set = (v : ℕ) → 1 ≤ v → v < id → imbalance v <ℤ pos 0 → set v ≡ true

-- the result of a look at the nodes: a decision; or all imbalances, if some node has excess
abbrev pub IsNodeTest : MinValue → List ℤ → NodeTest → Type 0
IsNodeTest i x (looks.Decided decision) = DecidesFeasible i x decision
IsNodeTest i x (looks.Excess imbalance) = AreImbalances i x (value_of imbalance) × ((v : ℕ) × IsNode i.nodes v × (pos 0 <ℤ value_of imbalance v))

-- the source has excess, the sink a deficit, and no other node either
pub record AreEnds (from to : ℕ) (imbalance : ℕ → ℤ) : Type 0 where
  pub source : pos 0 <ℤ imbalance from
  pub sink : imbalance to <ℤ pos 0
  pub others : (v : ℕ) → v ≢ from → v ≢ to → imbalance v ≡ pos 0
