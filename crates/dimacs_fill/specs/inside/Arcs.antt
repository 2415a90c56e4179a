-- Inside: the arcs among records.
use Rattle.std.specs.{Prelude.{List, Option, Some, None}, List.{filter_map}}
use Rattle.dimacs_records.specs.declared.records.Record.{Record}
use Rattle.dimacs_records.specs.declared.records.Record.TheVariants.{MaxArc, MinArc, GraphArc}
use Rattle.dimacs_network.specs.{declared.network.ArcView.{ArcView}, KeptArcs.{capacity_arc, cost_arc, weight_arc}}

-- the arc that a record spells, if any
abbrev pub arc_in : Record → Option ArcView
arc_in (MaxArc tail head cap) = Some (capacity_arc tail head cap)
arc_in (MinArc tail head low cap cost) = Some (cost_arc tail head low cap cost)
arc_in (GraphArc tail head weight) = Some (weight_arc tail head weight)
arc_in r = None

-- the arcs in their order
abbrev pub arcs_in : List Record → List ArcView
arcs_in rs = filter_map arc_in rs
