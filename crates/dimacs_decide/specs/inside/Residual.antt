-- Inside: what a search over residual arcs has found.
use Rattle.std.specs.Prelude.{ℕ, ◌≡◌, ◌≢◌, ◌⊎◌, ◌<◌, ◌≤◌, ◌+◌, ◌==◌, Bool, nat_lt, List, [], ◌∷◌, ◌++◌, length, slice_index, ℤ, pos, ◌≤ℤ◌, ◌<ℤ◌, Option, Some, None}
use Rattle.dimacs_network.specs.{declared.network.ArcView.{ArcView}, Arcs.{arc_at}, AdjacencyLists.{end_of, other_end}}
use Rattle.dimacs_network.specs.declared.adjacency_lists.Side.{Side}
use Rattle.dimacs_lines.specs.Limits.{IsNode}
use Rattle.dimacs_decide.specs.{declared.search.Visit.{Visit}, inside.Counting.{count_below}}
use Rattle.dimacs_decide.specs.inside.ResidualCapacities.{residual_capacity_on}

abbrev pub unvisited : Visit
unvisited = record { residual_capacity = pos 0; rank = 0; parent_arc = 0 }

abbrev pub rank_of : (ℕ → Visit) → ℕ → ℕ
rank_of visits v = (visits v).rank

abbrev pub residual_capacity_of : (ℕ → Visit) → ℕ → ℤ
residual_capacity_of visits v = (visits v).residual_capacity

abbrev pub parent_arc_of : (ℕ → Visit) → ℕ → ℕ
parent_arc_of visits v = (visits v).parent_arc

-- v was reached along a residual arc, from a node that was reached earlier with no less capacity
pub record IsReachedBy (arcs : List ArcView) (x : List ℤ) (visits : ℕ → Visit) (v : ℕ) : Type 0 where
  pub side : Side
  pub within : parent_arc_of visits v < length arcs
  pub to : other_end side (arc_at arcs (parent_arc_of visits v)) ≡ v
  pub reached : 0 < rank_of visits (end_of side (arc_at arcs (parent_arc_of visits v)))
  pub rank : rank_of visits (end_of side (arc_at arcs (parent_arc_of visits v))) < rank_of visits v
  pub positive : pos 0 <ℤ residual_capacity_of visits v
  pub before : residual_capacity_of visits v ≤ℤ residual_capacity_of visits (end_of side (arc_at arcs (parent_arc_of visits v)))
  pub residual_capacity : residual_capacity_of visits v ≤ℤ residual_capacity_on arcs x side (parent_arc_of visits v)

-- all nodes but the roots, whose rank is 1, were reached from others
abbrev pub IsResidualTree : List ArcView → List ℤ → (ℕ → Visit) → Type 0
IsResidualTree arcs x visits = (v : ℕ) → 1 < rank_of visits v → IsReachedBy arcs x visits v

-- no more is sent from a root than its excess
abbrev pub HaveImbalance : ℕ → (ℕ → ℤ) → (ℕ → Visit) → Type 0
HaveImbalance nodes imbalance visits = (v : ℕ) → rank_of visits v ≡ 1 → IsNode nodes v × (residual_capacity_of visits v ≤ℤ imbalance v)

-- how many of the nodes below n weren't reached
abbrev pub unreached : (ℕ → Visit) → ℕ → ℕ
unreached visits n = count_below (λ v. rank_of visits v == 0) n

abbrev pub is_in : (ℕ → Visit) → ℕ → Bool
is_in visits v = nat_lt 0 (rank_of visits v)

-- each residual arc from v of this side leads to a node that was reached
abbrev pub IsSideFollowed : List ArcView → List ℤ → (ℕ → Visit) → ℕ → Side → Type 0
IsSideFollowed arcs x visits v side =
    (k : ℕ) → k < length arcs → end_of side (arc_at arcs k) ≡ v
    → pos 0 <ℤ residual_capacity_on arcs x side k → 0 < rank_of visits (other_end side (arc_at arcs k))

-- a node without deficit whose residual arcs were followed on both sides
abbrev pub IsDone : List ArcView → List ℤ → (ℕ → ℤ) → (ℕ → Visit) → ℕ → Type 0
IsDone arcs x imbalance visits v = (pos 0 ≤ℤ imbalance v) × ((side : Side) → IsSideFollowed arcs x visits v side)

-- v is in the queue after the first places
abbrev pub IsQueued : List ℕ → ℕ → ℕ → Type 0
IsQueued queue done v = (j : ℕ) × (done ≤ j) × (j < length queue) × (slice_index queue j ≡ v)

-- a search from nodes with excess; the first nodes of the queue are done
pub record IsResidualSearch (nodes : ℕ) (arcs : List ArcView) (x : List ℤ) (imbalance : ℕ → ℤ) (visits : ℕ → Visit) (queue : List ℕ) (done : ℕ) : Type 0 where
  pub tree : IsResidualTree arcs x visits
  pub roots : HaveImbalance nodes imbalance visits
  pub residual_capacities : (v : ℕ) → 0 < rank_of visits v → pos 0 <ℤ residual_capacity_of visits v
  pub ranks : (v : ℕ) → rank_of visits v + unreached visits (nodes + 1) ≤ nodes + 1
  pub queued : (j : ℕ) → j < length queue → (slice_index queue j ≤ nodes) × (0 < rank_of visits (slice_index queue j))
  pub pending : (v : ℕ) → 0 < rank_of visits v → IsQueued queue done v ⊎ IsDone arcs x imbalance visits v

-- the visit of a node from another, by an arc with this residual capacity
pub record IsNext (from : Visit) (arc : ℕ) (most : ℤ) (e : Visit) : Type 0 where
  pub rank : e.rank ≡ from.rank + 1
  pub parent_arc : e.parent_arc ≡ arc
  pub positive : pos 0 <ℤ e.residual_capacity
  pub before : e.residual_capacity ≤ℤ from.residual_capacity
  pub residual_capacity : e.residual_capacity ≤ℤ most

-- one visit is set
pub record Becomes (visits : ℕ → Visit) (at : ℕ) (e : Visit) (visits' : ℕ → Visit) : Type 0 where
  pub here : visits' at ≡ e
  pub others : (v : ℕ) → v ≢ at → visits' v ≡ visits v

-- nothing changes without residual capacity, or if the node was reached; otherwise its visit is set, and it is queued
abbrev pub Reaches : ℕ → ℕ → ℕ → ℤ → (ℕ → Visit) → List ℕ → (ℕ → Visit) → List ℕ → Type 0
Reaches from to parent_arc residual_capacity visits queue visits' queue' =
    ((visits' ≡ visits) × (queue' ≡ queue) × ((residual_capacity ≤ℤ pos 0) ⊎ (0 < rank_of visits to)))
    ⊎ ((e : Visit) × IsNext (visits from) parent_arc residual_capacity e × (rank_of visits to ≡ 0) × Becomes visits to e visits' × (queue' ≡ queue ++ to ∷ []))

-- more nodes may be reached, and those in the queue keep their places
pub record Grows (nodes : ℕ) (visits : ℕ → Visit) (queue : List ℕ) (visits' : ℕ → Visit) (queue' : List ℕ) : Type 0 where
  pub reached : (v : ℕ) → 0 < rank_of visits v → 0 < rank_of visits' v
  pub places : (j : ℕ) → j < length queue → slice_index queue' j ≡ slice_index queue j
  pub longer : length queue ≤ length queue'
  pub each : unreached visits' (nodes + 1) + length queue' ≡ unreached visits (nodes + 1) + length queue

-- a reached node with a deficit; if there is none, all that can be reached are done
abbrev pub IsFound : List ArcView → List ℤ → (ℕ → ℤ) → (ℕ → Visit) → Option ℕ → Type 0
IsFound arcs x imbalance visits (Some t) = (0 < rank_of visits t) × (imbalance t <ℤ pos 0)
IsFound arcs x imbalance visits None = (v : ℕ) → 0 < rank_of visits v → IsDone arcs x imbalance visits v

-- a search that came to a node with a deficit, or to all nodes that it can reach
pub record IsExplored (nodes : ℕ) (arcs : List ArcView) (x : List ℤ) (imbalance : ℕ → ℤ) (visits : ℕ → Visit) (found : Option ℕ) : Type 0 where
  pub tree : IsResidualTree arcs x visits
  pub roots : HaveImbalance nodes imbalance visits
  pub residual_capacities : (v : ℕ) → 0 < rank_of visits v → pos 0 <ℤ residual_capacity_of visits v
  pub found_is : IsFound arcs x imbalance visits found
