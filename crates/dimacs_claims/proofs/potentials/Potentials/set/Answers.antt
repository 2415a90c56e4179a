use Rattle.std.specs.Int.{w128}
use Rattle.std.proofs.lemmas.Int.{to_z-of_z}
use Rattle.dimacs_claims.proofs.ValueLemmas.{law_after_set, set_potential}
use Rattle.dimacs_claims.proofs.potentials.Potentials.set.Goals as goal

pub invariant_of-self : goal.invariant_of-self
invariant_of-self c =
    let set = rw (to_z-of_z w128 c.args.value c.ranges.value) at c.set.ensures.set in
    let node = rw (← c.self.view_is) at c.requires.node in
    law_after_set c.self.inside.nodes c.self.inside.values c.set.new.self c.args.id c.args.value c.set.result set c.set.ensures.unchanged c.self.invariant node c.requires.wide

pub returns-clause-set : goal.returns-clause-set
returns-clause-set c =
    let set = rw (to_z-of_z w128 c.args.value c.ranges.value) at c.set.ensures.set in
    rw (← c.self.view_is) (set_potential c.self.inside.nodes c.self.inside.values c.set.new.self c.args.id c.args.value c.set.result set)
