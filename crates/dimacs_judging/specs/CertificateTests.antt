-- The tests of cuts, potentials, sets and labels.
use Rattle.std.specs.Prelude.{ℕ, ◌≡◌, ◌≢◌, ◌<◌, ◌⊎◌, Bool, true, false, List, [], ◌∷◌, length, get_or, Option, Some, None, IsSome, ℤ, pos, ◌+ℤ◌, ◌<ℤ◌}
use Rattle.dimacs_network.specs.{declared.network.ArcView.{ArcView}, Arcs.{arc_at}}
use Rattle.dimacs_records.specs.declared.reasons.Reason.{Reason}
use Rattle.dimacs_records.specs.declared.reasons.Reason.TheVariants.{SourceOutside, SinkInside, NotSaturated, BackFlow, NotTight, NotViolated, NoTightArc, Escapes, NotShortest, NegativeWeight}
use Rattle.dimacs_judging.specs.{declared.verdict.Where.TheVariants.{Certificate, Node}, ViolatedSets.{Violated}}
use Rattle.dimacs_judging.specs.{Cuts.{leaves, enters}, Potentials.{reduced_cost}, Labels.{HasTightArc}, Tests.{Row}}
use Rattle.dimacs_judging.specs.Rows.{arc_row, flow_row, one_test}
use Rattle.dimacs_instance.specs.{MaxFlows.{MaxValue}, MinFlows.{MinValue}}
use Rattle.dimacs_claims.specs.Labels.{BlockValue, IsWithinRadius, label, no_label}

-- an arc leaves the set and doesn't carry its capacity, or enters it and carries flow
abbrev pub TightFails : (ℕ → Bool) → ArcView → ℤ → Reason → Type 0
TightFails set a x reason = ((reason ≡ NotSaturated) × (leaves set a ≡ true) × (x ≢ a.cap)) ⊎ ((reason ≡ BackFlow) × (enters set a ≡ true) × (x ≢ pos 0))

-- the tests of a cut, in order
abbrev pub cut_rows : MaxValue → (ℕ → Bool) → List ℤ → List Row
cut_rows i set x =
    one_test (Node i.source) SourceOutside (set i.source ≡ false)
    ∷ one_test (Node i.sink) SinkInside (set i.sink ≡ true)
    ∷ flow_row (TightFails set) i.arcs x ∷ []

-- the reduced cost is positive and x isn't the lower bound, or it is negative and x isn't the capacity
abbrev pub SlackFails : ℤ → ArcView → ℤ → Reason → Type 0
SlackFails reduced a x reason = (reason ≡ NotTight) × (((pos 0 <ℤ reduced) × (x ≢ a.low)) ⊎ ((reduced <ℤ pos 0) × (x ≢ a.cap)))

abbrev pub slack_row : List ArcView → (ℕ → ℤ) → List ℤ → Row
slack_row arcs p x = flow_row (λ a. SlackFails (reduced_cost p a) a) arcs x

-- the test of a set of nodes
abbrev pub violated_row : MinValue → (ℕ → Bool) → Row
violated_row i set = one_test Certificate NotViolated (¬ Violated i set)

-- the weight of an arc is negative
abbrev pub negative_row : List ArcView → Row
negative_row arcs = arc_row arcs (λ k reason. (reason ≡ NegativeWeight) × ((arc_at arcs k).cost <ℤ pos 0))

-- the block has a radius, and the weight of an arc is negative
abbrev pub weight_row : List ArcView → BlockValue → Row
weight_row arcs b k place reason = IsSome b.radius × negative_row arcs k place reason

-- a label has no tight arc
abbrev pub support_row : List ArcView → BlockValue → Row
support_row arcs b k place reason =
    (k < length b.labels) × (place ≡ Node (get_or b.labels k no_label).id) × (reason ≡ NoTightArc) × (¬ HasTightArc arcs b (get_or b.labels k no_label))

-- the tail has label d; the head has no label, although d + weight is within the radius, or a label greater than
-- d + weight
abbrev pub RelaxFails : Option ℤ → Option ℤ → Option ℤ → ℤ → Reason → Type 0
RelaxFails radius tail head weight reason =
    (d : ℤ) × (tail ≡ Some d)
    × (((reason ≡ Escapes) × (head ≡ None) × IsWithinRadius radius (d +ℤ weight)) ⊎ ((reason ≡ NotShortest) × ((e : ℤ) × (head ≡ Some e) × ((d +ℤ weight) <ℤ e))))

abbrev pub relax_row : List ArcView → BlockValue → Row
relax_row arcs b = arc_row arcs (λ k reason. RelaxFails b.radius (label b (arc_at arcs k).tail) (label b (arc_at arcs k).head) (arc_at arcs k).cost reason)

-- the tests of all blocks, block by block
abbrev pub label_rows : List ArcView → List BlockValue → List Row
label_rows arcs [] = []
label_rows arcs (b ∷ blocks) = weight_row arcs b ∷ support_row arcs b ∷ relax_row arcs b ∷ label_rows arcs blocks
