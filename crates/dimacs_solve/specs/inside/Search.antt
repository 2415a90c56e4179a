-- Inside: Dijkstra's search from one source.
use Rattle.std.specs.Prelude.{ℕ, zero, suc, ◌≡◌, ◌≤◌, ◌+◌, ◌-◌, ◌*◌, ◌⊎◌, cond, List, ◌∷◌, All, Contains, Some, None, length, IsPermutation, ℤ, pos, ◌≤ℤ◌}
use Rattle.dimacs_lines.specs.Limits.{IsNode}
use Rattle.dimacs_claims.specs.{declared.label_list.Label.{Label}, Labels.{BlockValue, IsBlock, label}}
use Rattle.dimacs_solve.specs.{declared.adjacency.Adjacency.{Adjacency}, declared.packed_arc.WeightedArc.{WeightedArc}}
use Rattle.dimacs_solve.specs.{declared.piles.Walk.{Walk}, inside.Adjacency.{AreByNode, out, out_arc_to}}
use Rattle.dimacs_solve.specs.{inside.Frontiers.{IsNearest}, Paths.{IsNearestFirst}}
use Rattle.dimacs_solve.specs.inside.NodeStates.{Known, Unknown, Reached, Settled, IsReachedWithin, Sets, is_settled, settled_label}

-- how many of the nodes 1 to n are settled
unfoldable pub settled_count : (ℕ → Known) → ℕ → ℕ
settled_count node_states zero = 0
settled_count node_states (suc n) = settled_count node_states n + cond (is_settled (node_states (suc n))) 1 0

-- the walk ends with an arc from a settled node
pub record IsWalk (a : Adjacency) (node_states : ℕ → Known) (e : Walk ℕ) : Type 0 where
  pub base : ℕ
  pub weight : ℕ
  pub node : IsNode a.nodes e.pred
  pub pred : settled_label (node_states e.pred) ≡ Some (pos base)
  pub out_arc : Contains (out a e.pred) (out_arc_to e.node weight)
  pub adds : e.dist ≡ base + weight

-- a walk in the queue: at least as long as the floor, and as what is noted for its node
pub record IsQueuedWalk (a : Adjacency) (floor : ℕ) (node_states : ℕ → Known) (e : Walk ℕ) : Type 0 where
  pub walk : IsWalk a node_states e
  pub beyond : floor ≤ e.dist
  pub within : IsReachedWithin (node_states e.node) e.dist
  pub bound : e.dist ≤ a.greatest * settled_count node_states a.nodes

-- the queue has a walk to v of this length
abbrev pub IsPending : List (Walk ℕ) → ℕ → ℕ → Type 0
IsPending front v d = (p : ℕ) × Contains front (record { dist = d; node = v; pred = p })

-- the queue has the walk that was noted for a reached node; a settled node isn't farther than the floor
abbrev pub Agrees : ℕ → List (Walk ℕ) → ℕ → Known → Type 0
Agrees floor front v Unknown = Unit {0}
Agrees floor front v (Reached d) = IsPending front v d
Agrees floor front v (Settled d) = d ≤ floor

-- the states and the queue agree
pub record IsFront (a : Adjacency) (floor : ℕ) (node_states : ℕ → Known) (front : List (Walk ℕ)) : Type 0 where
  pub adjacent : AreByNode a
  pub waiting : (e : Walk ℕ) → Contains front e → IsQueuedWalk a floor node_states e
  pub agree : (v : ℕ) → Agrees floor front v (node_states v)

-- settled nodes stay settled as they were, no others become settled, and no length rises
pub record Lowers (old new : ℕ → Known) : Type 0 where
  pub settled : (v : ℕ) → settled_label (new v) ≡ settled_label (old v)
  pub within : (v d : ℕ) → IsReachedWithin (old v) d → IsReachedWithin (new v) d

-- a walk is put into the queue if it is shorter than what is noted for its node
abbrev pub Offers : Walk ℕ → (ℕ → Known) → List (Walk ℕ) → (ℕ → Known) → List (Walk ℕ) → Type 0
Offers e node_states front node_states' front' =
    (IsReachedWithin (node_states e.node) e.dist × (node_states' ≡ node_states) × (front' ≡ front))
    ⊎ ((¬ IsReachedWithin (node_states e.node) e.dist) × Sets node_states e.node (Reached e.dist) node_states' × IsPermutation (e ∷ front) front')

-- at most d plus the weight is noted for the head of the arc
abbrev pub IsArcRelaxed : (ℕ → Known) → ℕ → WeightedArc → Type 0
IsArcRelaxed node_states d out_arc = IsReachedWithin (node_states out_arc.head) (d + out_arc.weight)

-- the node was settled at this distance, no settled node is farther, and one more arc stays below the limit
pub record IsReady (a : Adjacency) (v dist : ℕ) (node_states : ℕ → Known) (front : List (Walk ℕ)) : Type 0 where
  pub node : IsNode a.nodes v
  pub settled : settled_label (node_states v) ≡ Some (pos dist)
  pub bound : dist + a.greatest ≤ a.greatest * settled_count node_states a.nodes
  pub waits : IsFront a dist node_states front

-- all arcs from the node were relaxed
pub record Relaxes (a : Adjacency) (v dist : ℕ) (old : ℕ → Known) (walks : List (Walk ℕ)) (new : ℕ → Known) (front : List (Walk ℕ)) : Type 0 where
  pub waits : IsFront a dist new front
  pub lowers : Lowers old new
  pub relaxed : All (IsArcRelaxed new dist) (out a v)
  pub queue_bounded : length front ≤ length walks + length a.out_arcs.items

-- the label has a tight arc from its predecessor
pub record HasTightOutArc (a : Adjacency) (b : BlockValue) (l : Label) : Type 0 where
  pub base : ℕ
  pub weight : ℕ
  pub pred : label b l.pred ≡ Some (pos base)
  pub out_arc : Contains (out a l.pred) (out_arc_to l.id weight)
  pub adds : l.dist ≡ pos (base + weight)

-- the state of the search between two entries of the queue
pub record IsPathSearch (a : Adjacency) (b : BlockValue) (node_states : ℕ → Known) (front : List (Walk ℕ)) : Type 0 where
  pub floor : ℕ
  pub waits : IsFront a floor node_states front
  pub labelled : (v : ℕ) → label b v ≡ settled_label (node_states v)
  pub counted : settled_count node_states a.nodes ≡ length b.labels + 1
  pub unbounded : b.radius ≡ None
  pub lawful : IsBlock a.nodes b
  pub tight : All (HasTightOutArc a b) b.labels
  pub low : All (λ (l : Label). l.dist ≤ℤ pos floor) b.labels
  pub nearest_first : IsNearestFirst b.labels
  pub relaxed : (u d : ℕ) → label b u ≡ Some (pos d) → All (IsArcRelaxed node_states d) (out a u)

-- the nearest walk was removed from the queue
pub record IsPopped (a : Adjacency) (b : BlockValue) (node_states : ℕ → Known) (e : Walk ℕ) (front : List (Walk ℕ)) : Type 0 where
  pub before : List (Walk ℕ)
  pub moved : IsPermutation before (e ∷ front)
  pub nearest : IsNearest e front
  pub search : IsPathSearch a b node_states before

-- a bound on the steps left: it falls with each walk removed from the queue
abbrev pub work : Adjacency → (ℕ → Known) → List (Walk ℕ) → ℕ
work a node_states front = (a.nodes - settled_count node_states a.nodes) * (length a.out_arcs.items + 1) + length front

-- each arc from a labelled node leads to a node with a label, which is at most the first label plus the weight
abbrev pub IsClosed : Adjacency → BlockValue → Type 0
IsClosed a b =
    (u d : ℕ) → label b u ≡ Some (pos d)
    → All (λ out_arc. (e : ℕ) × (label b out_arc.head ≡ Some (pos e)) × (e ≤ d + out_arc.weight)) (out a u)

-- the labels at the end of a search
pub record IsPathTree (a : Adjacency) (source : ℕ) (b : BlockValue) : Type 0 where
  pub from : b.source ≡ source
  pub unbounded : b.radius ≡ None
  pub lawful : IsBlock a.nodes b
  pub tight : All (HasTightOutArc a b) b.labels
  pub nearest_first : IsNearestFirst b.labels
  pub positive : (v : ℕ) (z : ℤ) → label b v ≡ Some z → (d : ℕ) × (z ≡ pos d)
  pub closed : IsClosed a b
