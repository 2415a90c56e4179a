use Rattle.std.proofs.{Common.{rules}, lemmas.Int.{to_z-of_z}}
use Rattle.std.specs.Int.{w128}
use Rattle.dimacs_claims.proofs.{PotentialsLemmas.{adds, node}, ValueLemmas.{law_after_set}}
use Rattle.dimacs_claims.proofs.potentials.PotentialsBuilderBuilder.keep.Goals as goal

pub invariant_of-self-2 : goal.invariant_of-self-2
invariant_of-self-2 c =
    let line = c.in-PotentialsNode in
    let passes = rw (line.is, ← c.self.view_is) at c.requires.passes in
    let set = rw (to_z-of_z w128 line.potential (search rules)) at c.set.ensures.set in
    law_after_set c.self.inside.nodes c.self.inside.values c.set.new.self line.id line.potential c.set.result set c.set.ensures.unchanged c.self.invariant (node _ _ _ (search rules) passes) (search rules)

pub returns-clause-added : goal.returns-clause-added
returns-clause-added c = λ rs h.
    let line = c.in-PotentialsNode in
    let passes = rw (line.is, ← c.self.view_is) at c.requires.passes in
    rw (line.is, c.in_ok-set.ensures.set, to_z-of_z w128 line.potential (search rules)) (adds _ _ _ (search rules) passes rs (rw (← c.self.view_is) at h))
