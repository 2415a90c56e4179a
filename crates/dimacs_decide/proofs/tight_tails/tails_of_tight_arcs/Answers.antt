use Rattle.std.proofs.{Common.{◌≡◌, ◌∙◌, ◌<◌, length, subst, sym, arith}, lemmas.List.{length-set}}
use Rattle.std.proofs.{lemmas.List.Elements.{All-get_or}, lemmas.Option.{get_or_from_slice_get, slice_get_within}}
use Rattle.dimacs_lines.specs.Limits.{IsNode}
use Rattle.dimacs_network.specs.Arcs.{JoinsNodes, arc_at, no_arc}
use Rattle.dimacs_decide.specs.Predecessors.{pred_by_node}
use Rattle.dimacs_decide.proofs.TightTailLemmas.{all_below, passes_more, tight_more}
use Rattle.dimacs_decide.proofs.tight_tails.tails_of_tight_arcs.Goals.{in-Passes, in-Tight}
use Rattle.dimacs_decide.proofs.tight_tails.tails_of_tight_arcs.Goals as goal

pub loop-i-preserved : goal.loop-i-preserved
loop-i-preserved g c =
    let arcs = g.N.Network.list c.args.network.now in
    let claim = g.C.DistanceClaim.claimed c.args.claim.now in
    let tails = c.loop-i.tails.items in
    let i = c.loop-i.i in
    let so_far = c.loop-i.invariant in
    let is : arc_at arcs i ≡ c.arc-arc.result = get_or_from_slice_get arcs i c.arc-arc.result no_arc c.arc-arc.ensures in
    let inside : i < length arcs = slice_get_within arcs i c.arc-arc.result c.arc-arc.ensures in
    let ends = All-get_or (JoinsNodes (g.N.Network.node_count c.args.network.now)) arcs i no_arc inside c.requires in
    let head : IsNode (length tails) (arc_at arcs i).head = subst (λ n. IsNode n (arc_at arcs i).head) (sym so_far.each) ends.1 in
    elim c.match-test_wanted.branch [
      | in-Passes w ↦ rw w.tails-is record { each = so_far.each; tight = passes_more arcs claim (pred_by_node tails) i so_far.tight (rw is w.in-Passes.ensures) }
      | in-Tight w ↦ rw w.tails-is record {
        each = length-set tails _ _ ∙ so_far.each;
        tight = rw (← is) (tight_more arcs claim tails i inside head so_far.tight (rw is w.in-Tight.ensures.0) (rw is w.in-Tight.ensures.1));
      }
    ]

pub returns-clause-relaxed : goal.returns-clause-relaxed
returns-clause-relaxed g c =
    all_below (g.N.Network.list c.args.network.now) (g.C.DistanceClaim.claimed c.args.claim.now) (pred_by_node c.loop-i.tails.items) c.loop-i.i (omega (arith, c.loop-i-test.false, c.loop-i.auto.i-end, c.arcs-i-end.ensures)) c.loop-i.invariant.tight

pub returns-clause-tails : goal.returns-clause-tails
returns-clause-tails g c = c.loop-i.invariant.tight.tight
