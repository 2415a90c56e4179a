use Rattle.std.proofs.{Common.{◌≡◌, ◌≤◌, arith, length}, lemmas.List.Elements.{All-get_or}}
use Rattle.std.proofs.lemmas.Option.{get_or_from_slice_get, slice_get_within}
use Rattle.dimacs_network.specs.Arcs.{JoinsNodes}
use Rattle.dimacs_judging.specs.inside.LabelsAtOnce.{entries_at}
use Rattle.dimacs_judging.proofs.{LabelsAtOnce.{one_at_most}, RowLemmas.{arc_clear_end}}
use Rattle.dimacs_judging.proofs.NodeLabelLemmas.{all_counted, clear_after, count_on, entries_after, no_improvement}
use Rattle.dimacs_judging.proofs.labels_at_once.relax_all.Goals as goal

pub loop-i-init : goal.loop-i-init
loop-i-init g c = record {
  labelled = c.requires.labelled;
  few = omega arith;
  count = omega arith;
  clear = λ k below. absurd (omega (arith, below));
  small = c.requires.small;
  nodes = c.requires.nodes;
}

pub relax-requires-clause-ends : goal.relax-requires-clause-ends
relax-requires-clause-ends g c =
    let arcs = g.N.Network.list c.args.network.now in
    let a = c.arc.result in
    let joins = rw (get_or_from_slice_get arcs c.loop-i.i a a c.arc.ensures) at (All-get_or (JoinsNodes (g.N.Network.node_count c.args.network.now)) arcs c.loop-i.i a (slice_get_within arcs c.loop-i.i a c.arc.ensures) c.requires.joined) in
    (omega (arith, c.loop-i.invariant.nodes, joins.0.1), omega (arith, c.loop-i.invariant.nodes, joins.1.1))

pub loop-i-preserved : goal.loop-i-preserved
loop-i-preserved g c =
    let arcs = g.N.Network.list c.args.network.now in
    let is = c.loop-i.invariant in
    let a = c.arc.result in
    let old = entries_at c.loop-i.table in
    let new = entries_at c.relax.new.table in
    let relaxes = rw c.in-Some.is at c.relax.ensures.relaxes in
    let passes = rw c.in-Some.is at c.relax.ensures.passes in
    let tight = rw c.in-Some.is at c.relax.ensures.tight in
    record {
      labelled = entries_after a old new _ relaxes arcs is.labelled _ c.arc.ensures;
      few = omega (arith, is.few, c.from-count.ensures, one_at_most c.in-Some.tight);
      count = count_on a old new _ relaxes arcs is.labelled c.in-Some.tight c.loop-i.count c.from-count.result tight.0 is.count c.from-count.ensures;
      clear = clear_after a old new _ relaxes arcs is.labelled _ c.arc.ensures is.clear (no_improvement c.args.block.now.radius (old a.tail).dist (old a.head).dist a.cost passes);
      small = c.relax.ensures.small;
      nodes = omega (arith, c.loop-i.invariant.nodes, c.relax.ensures.nodes);
    }

pub overflow_add-count : goal.overflow_add-count
overflow_add-count g c = omega (arith, c.loop-i.invariant.few, c.loop-i-test.true, c.arcs-i-end.type_inv, c.from-count.ensures, one_at_most c.in-Some.tight)

pub returns : goal.returns
returns g c = λ yes.
    let arcs = g.N.Network.list c.args.network.now in
    let b = c.args.block.now in
    let is = c.loop-i.invariant in
    let all : length arcs ≤ c.loop-i.i = omega (arith, c.loop-i-test.false, c.arcs-i-end.ensures) in
    let size : c.len.result ≡ length b.labels = rw c.labels-labels.ensures at c.len.ensures in
    (all_counted arcs b (entries_at c.loop-i.table) is.labelled.sound (omega (arith, is.count, size, c.if-count-len.false)), (arc_clear_end arcs _ c.loop-i.i all is.clear, tt))
