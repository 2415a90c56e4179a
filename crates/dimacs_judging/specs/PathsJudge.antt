-- Judging that labels are distances: the tests, what passes them, and what that shows.
use Rattle.std.specs.Prelude.{◌≡◌, ◌≤◌, List, ◌∷◌, All}
use Rattle.dimacs_network.specs.{declared.network.ArcView.{ArcView}, Arcs.{NetworkValue}}
use Rattle.dimacs_instance.specs.QueryTexts.{QueriesValue, Sources, Pairs}
use Rattle.dimacs_claims.specs.Labels.{BlockValue, LabelsValue}
use Rattle.dimacs_judging.specs.{Agreement.{nodes_row}, Answers.{beyond_from, distance_from}, Tests.{Row}}
use Rattle.dimacs_judging.specs.{CertificateTests.{label_rows}, Labels.{LabelsOk, AreDistances}, Walks.{IsDistance}}
use Rattle.dimacs_judging.specs.QueryTests.{IsServed, nodes_asked, sources_asked, query_node_row, block_row}

-- the tests of queries and labels, in order
abbrev pub paths_rows : NetworkValue → QueriesValue → LabelsValue → List Row
paths_rows g q l = nodes_row g.nodes l.nodes ∷ query_node_row g.nodes q ∷ block_row l.blocks q ∷ label_rows g.arcs l.blocks

-- labels and graph have the same nodes, the queries name its nodes and have blocks that answer them, and the labels of
-- every block pass
pub record PassesPaths (g : NetworkValue) (q : QueriesValue) (l : LabelsValue) : Type 0 where
  pub nodes : l.nodes ≡ g.nodes
  pub queries : All (λ id. id ≤ g.nodes) (nodes_asked q)
  pub blocks : All (IsServed l.blocks q) (sources_asked q)
  pub labels : All (LabelsOk g.arcs) l.blocks

-- the answer to each pair is the distance between its nodes; without a distance there is no walk, or none within the
-- radius of the answer
abbrev pub AnswersAreDistances : List ArcView → List BlockValue → QueriesValue → Type 0
AnswersAreDistances arcs blocks (Sources ids) = Unit {0}
AnswersAreDistances arcs blocks (Pairs pairs) =
    All (λ pair. IsDistance arcs pair.0 pair.1 (distance_from blocks pair.0 pair.1) (beyond_from blocks pair.0 pair.1)) pairs

-- the labels pass and are distances, and so are the answers
pub record ShowsDistances (g : NetworkValue) (q : QueriesValue) (l : LabelsValue) : Type 0 where
  pub passes : PassesPaths g q l
  pub labels : AreDistances g.arcs l.blocks
  pub answers : AnswersAreDistances g.arcs l.blocks q
