use Rattle.std.proofs.Common.{◌≡◌, ◌≤◌, ◌-◌, ℕ, List, ℤ}
use Rattle.dimacs_network.specs.Skips.{Skips}
use Rattle.dimacs_judging.specs.{Tests.{ClearBelow}, FlowTests.{balance_row}, Flows.{net}, inside.Tests.{AsksNothing}}
use Rattle.dimacs_judging.proofs.feasible.balances_hold.Given as goal

-- the balances so far hold
abbrev pub invariant-loop-v : goal.invariant-loop-v
invariant-loop-v g l = record {
  low : 1 ≤ l.v;
  demanded : Skips (λ v. AsksNothing (g.D.Demands.demand l.demands v)) l.v l.end l.demanded;
  clear : (x : List ℤ) → ((v : ℕ) → g.B.NodeBalances.balance l.balances v ≡ net (g.N.Network.list l.network) x v)
      → ClearBelow (balance_row (g.N.Network.node_count l.network) (g.N.Network.list l.network) (g.D.Demands.demand l.demands) x) l.v;
}

abbrev pub decreases-loop-v : goal.decreases-loop-v
decreases-loop-v g l = l.end - l.v
