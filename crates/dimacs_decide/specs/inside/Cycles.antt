-- Inside: cycles of residual arcs.
use Rattle.std.specs.Prelude.{ℕ, suc, zero, ◌≡◌, ◌≢◌, ◌<◌, ◌-◌, List, length, get_or, ℤ, pos, ◌+ℤ◌, ◌<ℤ◌}
use Rattle.dimacs_network.specs.{declared.network.ArcView.{ArcView}, declared.adjacency_lists.Side.TheVariants.{Tail}}
use Rattle.dimacs_network.specs.{AdjacencyLists.{end_of, other_end}, Arcs.{arc_at}}
use Rattle.dimacs_methods.specs.declared.potentials.claim.ResidualArc.{ResidualArc}
use Rattle.dimacs_decide.specs.{inside.Heights.{gain_at}, inside.ResidualCapacities.{residual_capacity_on}}

abbrev pub residual_at : List ResidualArc → ℕ → ResidualArc
residual_at cycle j = get_or cycle j (record { arc = 0; side = Tail })

-- the node at which the residual arc begins, and the node to which it leads
abbrev pub beginning_of : List ArcView → ResidualArc → ℕ
beginning_of arcs r = end_of r.side (arc_at arcs r.arc)

abbrev pub ending_of : List ArcView → ResidualArc → ℕ
ending_of arcs r = other_end r.side (arc_at arcs r.arc)

-- what sending one unit along it saves
abbrev pub gain_of : List ArcView → ResidualArc → ℤ
gain_of arcs r = gain_at r.side (arc_at arcs r.arc)

-- it begins at the node and has residual capacity
pub record LeadsFrom (arcs : List ArcView) (x : List ℤ) (from : ℕ) (r : ResidualArc) : Type 0 where
  pub within : r.arc < length arcs
  pub begins : beginning_of arcs r ≡ from
  pub residual_capacity : pos 0 <ℤ residual_capacity_on arcs x r.side r.arc

-- the node after this many residual arcs of a cycle
abbrev pub node_after : List ArcView → List ResidualArc → ℕ → ℕ
node_after arcs cycle zero = ending_of arcs (residual_at cycle (length cycle - 1))
node_after arcs cycle (suc j) = ending_of arcs (residual_at cycle j)

-- what this many of them save
abbrev pub gain_after : List ArcView → List ResidualArc → ℕ → ℤ
gain_after arcs cycle zero = pos 0
gain_after arcs cycle (suc j) = gain_after arcs cycle j +ℤ gain_of arcs (residual_at cycle j)

-- the first n form a path from the end of the last one, with residual capacity, and no two of them end at the same node
pub record IsWalked (arcs : List ArcView) (x : List ℤ) (cycle : List ResidualArc) (n : ℕ) : Type 0 where
  pub each : (j : ℕ) → j < n → LeadsFrom arcs x (node_after arcs cycle j) (residual_at cycle j)
  pub apart : (i j : ℕ) → i < j → j < n → ending_of arcs (residual_at cycle i) ≢ ending_of arcs (residual_at cycle j)

-- a cycle with residual capacity that saves something
pub record IsSaving (arcs : List ArcView) (x : List ℤ) (cycle : List ResidualArc) : Type 0 where
  pub walked : IsWalked arcs x cycle (length cycle)
  pub gain : pos 0 <ℤ gain_after arcs cycle (length cycle)
