use Rattle.std.proofs.Common.{arith, take_all}
use Rattle.dimacs_facts.proofs.OnlyLemmas.{once, one_more}
use Rattle.dimacs_facts.proofs.only.tight_arcs.Goals as goal

pub loop-i-preserved : goal.loop-i-preserved
loop-i-preserved g c =
    record {
      counted = omega (arith, one_more (g.N.Network.list c.args.network.now) c.args.potentials.now c.loop-i.i c.arc.result c.arc.ensures, c.loop-i.invariant.counted, c.one_if_tight-count.ensures);
      few = omega (arith, c.loop-i.invariant.few, once c.args.potentials.now c.arc.result, c.one_if_tight-count.ensures);
    }

pub returns : goal.returns
returns g c = rw (take_all c.loop-i.i (g.N.Network.list c.args.network.now) (omega (arith, c.loop-i-test.false, c.arcs-i-end.ensures))) at c.loop-i.invariant.counted
