-- Inside: residual capacities, and the amounts of arcs after some was sent.
use Rattle.std.specs.Prelude.{ℕ, List, ℤ, ◌+ℤ◌, ◌-ℤ◌}
use Rattle.dimacs_network.specs.{declared.network.ArcView.{ArcView}, declared.adjacency_lists.Side.{Side}}
use Rattle.dimacs_network.specs.{declared.adjacency_lists.Side.TheVariants.{Tail, Head}, Arcs.{arc_at}}
use Rattle.dimacs_judging.specs.Rows.{amount_at}

-- the residual capacity of an arc from this end
abbrev pub residual_capacity_at : Side → ArcView → ℤ → ℤ
residual_capacity_at Tail a x = a.cap -ℤ x
residual_capacity_at Head a x = x -ℤ a.low

-- the amount on an arc after some was sent along it from this end
abbrev pub carried_after : Side → ℤ → ℤ → ℤ
carried_after Tail amount x = x +ℤ amount
carried_after Head amount x = x -ℤ amount

-- the residual capacity of the arc with this index from this end
abbrev pub residual_capacity_on : List ArcView → List ℤ → Side → ℕ → ℤ
residual_capacity_on arcs x side k = residual_capacity_at side (arc_at arcs k) (amount_at x k)
