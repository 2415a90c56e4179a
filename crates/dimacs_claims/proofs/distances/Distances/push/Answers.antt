use Rattle.dimacs_claims.proofs.DistanceStates.{bare_pushed}
use Rattle.dimacs_claims.proofs.distances.Distances.push.Goals as goal

pub push-requires-clause-source : goal.push-requires-clause-source
push-requires-clause-source c = rw (← c.self.view_is) at c.requires.source

pub invariant_of-self : goal.invariant_of-self
invariant_of-self c = bare_pushed c.self.inside.labels c.push.new.self c.args.block c.push.result c.push.ensures.pushed c.push.ensures.unchanged c.requires.bare c.self.invariant
