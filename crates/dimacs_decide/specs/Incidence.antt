-- Adjacency lists in both directions.
use Rattle.std.specs.Prelude.{List}
use Rattle.dimacs_network.specs.{declared.network.ArcView.{ArcView}, declared.adjacency_lists.Side.{Side}}
use Rattle.dimacs_network.specs.declared.adjacency_lists.AdjacencyLists.{AdjacencyLists}
use Rattle.dimacs_network.specs.declared.adjacency_lists.Side.TheVariants.{Tail, Head}
use Rattle.dimacs_network.specs.AdjacencyLists.{AreAdjacencyLists}
use Rattle.dimacs_decide.specs.declared.incidence.Incidence.{Incidence}

abbrev pub lists_at : Side → Incidence → AdjacencyLists
lists_at Tail i = i.leaving
lists_at Head i = i.entering

-- the arcs by tail, and by head
abbrev pub IsIncidenceOf : List ArcView → Incidence → Type 0
IsIncidenceOf arcs i = (side : Side) → AreAdjacencyLists side arcs (lists_at side i)
