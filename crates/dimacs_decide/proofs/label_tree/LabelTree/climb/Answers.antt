use Rattle.std.proofs.{Common.{◌≡◌, ◌++◌, ◌∷◌, [], false, IsSome, refl}, lemmas.List.Elements.{All-push}}
use Rattle.dimacs_network.specs.Tables.{value_of}
use Rattle.dimacs_decide.specs.Predecessors.{pred_by_node}
use Rattle.dimacs_decide.proofs.PathBackLemmas.{path_more}
use Rattle.dimacs_decide.proofs.label_tree.LabelTree.climb.Goals as goal

pub loop-self-preserved : goal.loop-self-preserved
loop-self-preserved g c =
    let so_far = c.loop-self.invariant in
    let claim = g.C.DistanceClaim.claimed c.args.self.now.claim.now in
    let pred = pred_by_node c.args.self.now.predecessors.now in
    let labelled = value_of c.args.self.now.labelled in
    let at = c.loop-self.at in
    let path = c.loop-self.self.path.items in
    let goes_on = c.loop-self-test.ensures.0 refl in
    let some : IsSome (claim at) = rw so_far.claim at goes_on.0 in
    let off : labelled at ≡ false = rw so_far.labelled at goes_on.1 in
    let longer : c.push.new.self.items ≡ path ++ at ∷ [] = c.in_ok-push.ensures.items in
    let next : c.predecessor_of-at.result ≡ pred at = rw so_far.predecessors at c.predecessor_of-at.ensures in
    record {
      block = so_far.block;
      claim = so_far.claim;
      predecessors = so_far.predecessors;
      labelled = so_far.labelled;
      path = rw (longer, next) (path_more claim pred c.args.from path at so_far.path some);
      off = rw longer (All-push (λ u. labelled u ≡ false) path at so_far.off off);
    }
