use Rattle.std.specs.{FinSet.{contains-empty}, Ordering.{nat_cmp}}
use Rattle.dimacs_claims.proofs.BuilderLemmas.{labelled_none, nothing_begun}
use Rattle.dimacs_claims.proofs.labels.reading.LabelsBuilder.new.Goals as goal

pub invariant_of-result : goal.invariant_of-result
invariant_of-result c =
    rw (c.new.ensures, c.new-2.ensures, c.new-3.ensures.items) (nothing_begun c.args.nodes c.args.declared c.requires.nodes c.requires.declared, λ id. contains-empty nat_cmp id, labelled_none)
