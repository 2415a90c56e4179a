-- Flows that leave less and less excess.
use Rattle.std.proofs.{Common.{◌<◌, List, [], ◌∷◌, All, map, ℤ, ◌≤ℤ◌, ◌<ℤ◌, arith}, lemmas.Int.{ints}}
use Rattle.std.proofs.lemmas.List.Elements.{All-head, All-tail}
use Rattle.dimacs_network.specs.declared.network.ArcView.{ArcView}
use Rattle.dimacs_instance.specs.MinFlows.{HasBounds, MinValue, positive_part}
use Rattle.dimacs_decide.specs.{Bounds.{KeepsBounds}, FeasibilityDecision.{total_excess}}
use Rattle.dimacs_decide.proofs.{ExcessLemmas.{excess_some}, HeightLemmas.{part_less}}

pub lowest_keeps : (arcs : List ArcView) → All HasBounds arcs → KeepsBounds arcs (map (λ (a : ArcView). a.low) arcs)
lowest_keeps [] has = tt
lowest_keeps (a ∷ arcs) has = let h = All-head HasBounds a arcs has in ((omega (arith, ints), h.1), lowest_keeps arcs (All-tail HasBounds a arcs has))

-- the measure: a nearer flow leaves less excess, and the heuristic's no more than that
pub falls : (i : MinValue) (x y z : List ℤ) → total_excess i y <ℤ total_excess i x → total_excess i z ≤ℤ total_excess i y
    → positive_part (total_excess i z) < positive_part (total_excess i x)
falls i x y z less no_more = part_less (total_excess i z) (total_excess i x) (excess_some i z) (omega (arith, ints, less, no_more))
