use Rattle.std.proofs.Common.{arith, refl}
use Rattle.dimacs_facts.proofs.WalkLemmas.{eased_least}
use Rattle.dimacs_facts.proofs.least.are_least.Goals as goal

pub returns : goal.returns
returns g c = λ shown.
    eased_least _ c.args.source _ c.loop-i.i (omega (arith, c.loop-i-test.false, c.arcs-i-end.ensures)) c.loop-i.invariant (c.if-not-begin_light.ensures refl)
