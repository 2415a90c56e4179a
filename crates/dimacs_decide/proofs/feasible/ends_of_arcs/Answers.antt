use Rattle.dimacs_decide.proofs.FeasibleLemmas.{ends_more}
use Rattle.dimacs_decide.proofs.feasible.ends_of_arcs.Goals as goal

pub loop-i-preserved : goal.loop-i-preserved
loop-i-preserved g c = rw (c.in_ok-add-2.ensures.added, c.in_ok-add.ensures.added) record {
  nodes = c.loop-i.invariant.nodes;
  ends = ends_more (g.N.Network.list c.args.network.now) c.loop-i.i c.arc-arc.result c.loop-i.set c.arc-arc.ensures c.loop-i.invariant.ends;
}
