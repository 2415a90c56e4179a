use Rattle.std.proofs.Common.{◌≡◌, take}
use Rattle.std.specs.{List.{AllZip}, Prelude.{IfSome}}
use Rattle.dimacs_network.specs.{AdjacencyLists.{AreAdjacencyLists}, declared.adjacency_lists.Side.TheVariants.{Tail}}
use Rattle.dimacs_decide.specs.{CertifiedPaths.{AreAllDistances}, inside.DistanceBlocks.{IsBlockFor}}
use Rattle.dimacs_decide.specs.inside.FewLabels.{AreFree}
use Rattle.dimacs_decide.proofs.certified_paths.certify_paths.Given as goal

-- the claims so far are true, and each has its block
abbrev pub invariant-loop-i : goal.invariant-loop-i
invariant-loop-i g l = record {
  nodes : l.labels.nodes ≡ l.graph.nodes;
  made : AllZip (IsBlockFor l.graph) (take l.i l.distances.blocks) l.labels.blocks;
  lists : IfSome l.lists (AreAdjacencyLists Tail l.graph.arcs);
  free : IfSome l.tables (AreFree l.graph);
  hold : AreAllDistances l.graph (take l.i l.distances.blocks);
}
