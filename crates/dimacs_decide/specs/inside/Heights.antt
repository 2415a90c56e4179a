-- Inside: potentials that were raised over residual arcs.
use Rattle.std.specs.Prelude.{ℕ, suc, zero, ◌≡◌, ◌≢◌, ◌⊎◌, ◌<◌, ◌≤◌, ◌+◌, ◌-◌, ◌*◌, ◌==◌, if◌then◌else◌, Bool, true, false, List, length, ℤ, pos, neg_ℤ, ◌+ℤ◌, ◌-ℤ◌, ◌≤ℤ◌, ◌<ℤ◌}
use Rattle.dimacs_network.specs.{declared.network.ArcView.{ArcView}, Arcs.{arc_at}, AdjacencyLists.{end_of, other_end}}
use Rattle.dimacs_network.specs.declared.adjacency_lists.Side.{Side}
use Rattle.dimacs_network.specs.declared.adjacency_lists.Side.TheVariants.{Tail, Head}
use Rattle.dimacs_instance.specs.MinFlows.{positive_part}
use Rattle.dimacs_decide.specs.declared.heights.HeightLabel.{HeightLabel}
use Rattle.dimacs_decide.specs.inside.ResidualCapacities.{residual_capacity_on}

abbrev pub unraised : HeightLabel
unraised = record { height = pos 0; arc_number = 0; side = Tail }

abbrev pub height_of : (ℕ → HeightLabel) → ℕ → ℤ
height_of labels v = (labels v).height

-- what sending one unit along the arc from this side saves
abbrev pub gain_at : Side → ArcView → ℤ
gain_at Tail a = neg_ℤ a.cost
gain_at Head a = a.cost

-- the node from which a label was raised; 0 for none
abbrev pub below_of : List ArcView → HeightLabel → ℕ
below_of arcs l = if l.arc_number == 0 then 0 else end_of l.side (arc_at arcs (l.arc_number - 1))

-- the greatest height after this many steps
abbrev pub bound : ℕ → ℤ
bound n = pos (79228162514264337593543950336 + n * 9223372036854775808)

abbrev pub BelowBound : ℕ → (ℕ → HeightLabel) → Type 0
BelowBound n labels = (v : ℕ) → height_of labels v ≤ℤ bound n

-- the residual arc from this side can't raise its other end
abbrev pub IsSettled : List ArcView → List ℤ → (ℕ → HeightLabel) → Side → ℕ → Type 0
IsSettled arcs x labels side k =
    pos 0 <ℤ residual_capacity_on arcs x side k
    → (height_of labels (end_of side (arc_at arcs k)) +ℤ gain_at side (arc_at arcs k)) ≤ℤ height_of labels (other_end side (arc_at arcs k))

abbrev pub AreSettled : List ArcView → List ℤ → ℕ → (ℕ → HeightLabel) → Type 0
AreSettled arcs x n labels = (k : ℕ) → k < n → (side : Side) → IsSettled arcs x labels side k

-- v was raised along a residual arc, to at most its tail's height plus the gain; if to just that, after its tail
pub record IsRaised (arcs : List ArcView) (x : List ℤ) (height : ℕ → ℤ) (time : ℕ → ℕ) (v : ℕ) (l : HeightLabel) : Type 0 where
  pub within : l.arc_number ≤ length arcs
  pub to : other_end l.side (arc_at arcs (l.arc_number - 1)) ≡ v
  pub residual_capacity : pos 0 <ℤ residual_capacity_on arcs x l.side (l.arc_number - 1)
  pub low : height v ≤ℤ (height (end_of l.side (arc_at arcs (l.arc_number - 1))) +ℤ gain_at l.side (arc_at arcs (l.arc_number - 1)))
  pub strict : (height v <ℤ (height (end_of l.side (arc_at arcs (l.arc_number - 1))) +ℤ gain_at l.side (arc_at arcs (l.arc_number - 1))))
      ⊎ (time (end_of l.side (arc_at arcs (l.arc_number - 1))) < time v)

-- heights that came from raising, each node at its own time
pub record AreHeights (arcs : List ArcView) (x : List ℤ) (labels : ℕ → HeightLabel) : Type 0 where
  pub time : ℕ → ℕ
  pub now : ℕ
  pub earlier : (v : ℕ) → time v < now
  pub not_negative : (v : ℕ) → pos 0 ≤ℤ height_of labels v
  pub low : (v : ℕ) → (labels v).arc_number ≡ 0 → (height_of labels v ≤ℤ height_of labels 0) × (height_of labels v ≤ℤ bound 0)
  pub raised : (v : ℕ) → 0 < (labels v).arc_number → IsRaised arcs x (height_of labels) time v (labels v)

-- start heights: no node is higher than node 0, which has no arc
abbrev pub AreStartHeights : (ℕ → HeightLabel) → Type 0
AreStartHeights labels =
    (v : ℕ) → ((labels v).arc_number ≡ 0) × (pos 0 ≤ℤ height_of labels v)
    × (height_of labels v ≤ℤ height_of labels 0) × (height_of labels v ≤ℤ bound 0)

-- the other end of the arc is raised from this side
pub record Lifted (arcs : List ArcView) (x : List ℤ) (side : Side) (k : ℕ) (labels labels' : ℕ → HeightLabel) : Type 0 where
  pub residual_capacity : pos 0 <ℤ residual_capacity_on arcs x side k
  pub rises : height_of labels (other_end side (arc_at arcs k)) <ℤ (height_of labels (end_of side (arc_at arcs k)) +ℤ gain_at side (arc_at arcs k))
  pub height : height_of labels' (other_end side (arc_at arcs k)) ≡ height_of labels (end_of side (arc_at arcs k)) +ℤ gain_at side (arc_at arcs k)
  pub arc_number : (labels' (other_end side (arc_at arcs k))).arc_number ≡ k + 1
  pub side_is : (labels' (other_end side (arc_at arcs k))).side ≡ side
  pub others : (v : ℕ) → v ≢ other_end side (arc_at arcs k) → labels' v ≡ labels v

-- it is raised, or needn't be
abbrev pub Lifts : List ArcView → List ℤ → Side → ℕ → (ℕ → HeightLabel) → Bool → (ℕ → HeightLabel) → Type 0
Lifts arcs x side k labels true labels' = Lifted arcs x side k labels labels'
Lifts arcs x side k labels false labels' = ((v : ℕ) → labels' v ≡ labels v) × IsSettled arcs x labels side k

-- whether something had changed before, or a node was raised in one of both directions
abbrev pub either_of : Bool → Bool → Bool → Bool
either_of changed true b = true
either_of changed false true = true
either_of changed false false = changed

-- a round over the first n arcs
pub record IsRound (nodes : ℕ) (arcs : List ArcView) (x : List ℤ) (n : ℕ) (labels : ℕ → HeightLabel) (changed : Bool) (labels' : ℕ → HeightLabel) : Type 0 where
  pub grows : (v : ℕ) → height_of labels v ≤ℤ height_of labels' v
  pub bounded : BelowBound (nodes + 1 + 2 * n) labels'
  pub same : changed ≡ false → (v : ℕ) → labels' v ≡ labels v
  pub settled : changed ≡ false → AreSettled arcs x n labels'
  pub more : changed ≡ true → (v : ℕ) × (v ≤ nodes) × (height_of labels v <ℤ height_of labels' v)

-- how much the first nodes can still rise
abbrev pub rise_left : ℤ → (ℕ → ℤ) → ℕ → ℕ
rise_left most height zero = 0
rise_left most height (suc n) = rise_left most height n + positive_part (most -ℤ height n)
