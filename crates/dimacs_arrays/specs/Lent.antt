-- The arcs that arrays hold.
use Rattle.std.specs.{Prelude.{ℕ, List, map}, List.{range_with_len}}
use Rattle.dimacs_network.specs.declared.network.ArcView.{ArcView}

-- so many arcs, by index
abbrev pub lent_arcs : (ℕ → ArcView) → ℕ → List ArcView
lent_arcs arc_of count = map arc_of (range_with_len 0 count)
