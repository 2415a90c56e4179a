-- Inside: cancelling a cycle.
use Rattle.std.specs.Prelude.{ℕ, ◌≡◌, ◌≢◌, ◌==◌, ◌<◌, List, length, ℤ, pos, ◌+ℤ◌, ◌-ℤ◌, ◌*ℤ◌, ◌≤ℤ◌, ◌<ℤ◌}
use Rattle.dimacs_network.specs.{declared.network.ArcView.{ArcView}, Arcs.{arc_at}}
use Rattle.dimacs_methods.specs.declared.potentials.claim.ResidualArc.{ResidualArc}
use Rattle.dimacs_judging.specs.{Flows.{net, cost, when}, Rows.{amount_at}}
use Rattle.dimacs_decide.specs.{Bounds.{KeepsBounds}, inside.Cycles.{ending_of, gain_after, node_after, residual_at}}
use Rattle.dimacs_decide.specs.inside.ResidualCapacities.{residual_capacity_on}

-- the amount is positive, and the first n residual arcs have capacity for it
pub record HasCapacityFor (arcs : List ArcView) (x : List ℤ) (cycle : List ResidualArc) (n : ℕ) (amount : ℤ) : Type 0 where
  pub positive : pos 0 <ℤ amount
  pub each : (j : ℕ) → j < n → amount ≤ℤ residual_capacity_on arcs x (residual_at cycle j).side (residual_at cycle j).arc

-- the amount was sent along the first n residual arcs, which costs less by their gain for each unit
pub record IsCancelling (arcs : List ArcView) (x y : List ℤ) (cycle : List ResidualArc) (n : ℕ) (amount : ℤ) : Type 0 where
  pub within : KeepsBounds arcs y
  pub balance : (u : ℕ) → net arcs y u ≡ (net arcs x u +ℤ when (node_after arcs cycle 0 == u) amount) -ℤ when (node_after arcs cycle n == u) amount
  pub heads : (k : ℕ) → k < length arcs → ((j : ℕ) → j < n → ending_of arcs (residual_at cycle j) ≢ (arc_at arcs k).head) → amount_at y k ≤ℤ amount_at x k
  pub tails : (k : ℕ) → k < length arcs → ((j : ℕ) → j < n → ending_of arcs (residual_at cycle j) ≢ (arc_at arcs k).tail) → amount_at x k ≤ℤ amount_at y k
  pub costs : cost arcs y ≡ cost arcs x -ℤ amount *ℤ gain_after arcs cycle n
