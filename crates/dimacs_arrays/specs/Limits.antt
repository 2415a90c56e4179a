-- The limits of the numbers in arrays, which are those of texts, and the places of numbers out of range.
use Rattle.std.specs.Prelude.{ℕ, ◌≡◌, ◌+◌, ◌<◌, ◌⊎◌, List, [], ◌∷◌, pos, ◌<ℤ◌}
use Rattle.dimacs_lines.specs.Limits.{most_count, most_nodes}
use Rattle.dimacs_records.specs.declared.reasons.Reason.{Reason}
use Rattle.dimacs_records.specs.declared.reasons.Reason.TheVariants.{NumberRange, NodeRange, BoundOrder}
use Rattle.dimacs_network.specs.{declared.network.ArcView.{ArcView}, Arcs.{JoinsNodes, arc_at}}
use Rattle.dimacs_judging.specs.{declared.verdict.Where.TheVariants.{Arc, Node}, Rows.{arc_row, one_test}, Tests.{Row}}

-- too many nodes, or too many arcs; the place is the first beyond the limit
abbrev pub count_rows : ℕ → ℕ → List Row
count_rows nodes arcs =
    one_test (Node (most_nodes + 1)) NumberRange (most_nodes < nodes)
    ∷ one_test (Arc (most_count + 1)) NumberRange (most_count < arcs) ∷ []

-- an end of the arc is no node; otherwise low < 0 or cap < low
abbrev pub ArcFails : ℕ → ArcView → Reason → Type 0
ArcFails nodes a reason = ((reason ≡ NodeRange) × (¬ JoinsNodes nodes a)) ⊎ ((reason ≡ BoundOrder) × JoinsNodes nodes a × ((a.low <ℤ pos 0) ⊎ (a.cap <ℤ a.low)))

abbrev pub limit_row : ℕ → List ArcView → Row
limit_row nodes arcs = arc_row arcs (λ k reason. ArcFails nodes (arc_at arcs k) reason)
