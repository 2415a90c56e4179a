use Rattle.std.proofs.Common.{◌≡◌, ◌+◌, ◌-◌, length}
use Rattle.dimacs_network.specs.Tables.{value_of}
use Rattle.dimacs_decide.specs.{Predecessors.{pred_by_node}, inside.LabelTrees.{AreOff, IsPathBack}}
use Rattle.dimacs_decide.proofs.label_tree.LabelTree.climb.Given as goal

-- the path so far ends before `at`
abbrev pub invariant-loop-self : goal.invariant-loop-self
invariant-loop-self g l = record {
  block : l.self.block ≡ l.fn.self.block;
  claim : l.self.claim.now ≡ l.fn.self.claim.now;
  predecessors : l.self.predecessors.now ≡ l.fn.self.predecessors.now;
  labelled : l.self.labelled ≡ l.fn.self.labelled;
  path : IsPathBack (g.C.DistanceClaim.claimed l.fn.self.claim.now) (pred_by_node l.fn.self.predecessors.now) l.from l.self.path.items l.at;
  off : AreOff (value_of l.fn.self.labelled) l.self.path.items;
}

abbrev pub decreases-loop-self : goal.decreases-loop-self
decreases-loop-self g l = (l.nodes + 1) - length l.self.path.items
