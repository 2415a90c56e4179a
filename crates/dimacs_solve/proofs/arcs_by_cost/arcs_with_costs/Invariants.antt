use Rattle.std.proofs.Common.{◌≡◌, ℕ, ◌<◌, length}
use Rattle.dimacs_network.specs.Arcs.{arc_at}
use Rattle.dimacs_solve.specs.inside.ArcsByCost.{place_at}
use Rattle.dimacs_solve.proofs.arcs_by_cost.arcs_with_costs.Given as goal

-- the arcs so far
abbrev pub invariant-loop-arc : goal.invariant-loop-arc
invariant-loop-arc g l = record {
  one_each : length l.order.items ≡ l.arc;
  arc : (k : ℕ) → k < l.arc → (place_at l.order.items k).arc ≡ k;
  cost : (k : ℕ) → k < l.arc → (place_at l.order.items k).cost ≡ (arc_at (g.N.Network.list l.network) k).cost;
}
