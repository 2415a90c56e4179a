-- Feasible flows.
use Rattle.std.specs.{Prelude.{ℕ, ◌≡◌, ◌≢◌, List, ℤ, pos, ◌≤ℤ◌}, List.{AllZip}}
use Rattle.dimacs_instance.specs.{MaxFlows.{MaxValue}, MinFlows.{MinValue, supply_of}}
use Rattle.dimacs_lines.specs.Limits.{IsNode}
use Rattle.dimacs_judging.specs.Flows.{net}

-- every arc carries from 0 to its capacity, and the balance of every node but source and sink is 0
pub record FeasibleMax (i : MaxValue) (y : List ℤ) : Type 0 where
  pub within : AllZip (λ a x. (pos 0 ≤ℤ x) × (x ≤ℤ a.cap)) i.arcs y
  pub balanced : (v : ℕ) → IsNode i.nodes v → v ≢ i.source → v ≢ i.sink → net i.arcs y v ≡ pos 0

abbrev pub value : MaxValue → List ℤ → ℤ
value i y = net i.arcs y i.source

-- every arc carries from its lower bound to its capacity, and the balance of every node is its supply
pub record FeasibleMin (i : MinValue) (y : List ℤ) : Type 0 where
  pub within : AllZip (λ a x. (a.low ≤ℤ x) × (x ≤ℤ a.cap)) i.arcs y
  pub balanced : (v : ℕ) → IsNode i.nodes v → net i.arcs y v ≡ supply_of i v
