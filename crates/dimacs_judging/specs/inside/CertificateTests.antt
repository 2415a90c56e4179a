-- Inside: the tests of cuts, potentials and labels.
use Rattle.std.specs.Prelude.{List, [], ◌∷◌}
use Rattle.dimacs_network.specs.declared.network.ArcView.{ArcView}
use Rattle.dimacs_claims.specs.Labels.{BlockValue}
use Rattle.dimacs_judging.specs.{Tests.{Row}, CertificateTests.{weight_row, support_row, relax_row}}

-- the tests of the labels of one block, then of the arcs between them
abbrev pub distance_rows : List ArcView → BlockValue → List Row
distance_rows arcs b = support_row arcs b ∷ relax_row arcs b ∷ []

-- the tests of one block
abbrev pub block_rows : List ArcView → BlockValue → List Row
block_rows arcs b = weight_row arcs b ∷ distance_rows arcs b
