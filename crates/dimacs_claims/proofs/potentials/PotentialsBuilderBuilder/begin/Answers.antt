use Rattle.std.proofs.Common.{rules}
use Rattle.dimacs_records.proofs.NameLemmas.{without_zeros-empty}
use Rattle.dimacs_claims.proofs.{PotentialsLemmas.{begins}, ValueLemmas.{zero_law}}
use Rattle.dimacs_claims.proofs.potentials.PotentialsBuilderBuilder.begin.Goals as goal

pub invariant_of-result : goal.invariant_of-result
invariant_of-result c =
    rw (c.new.ensures, without_zeros-empty) (zero_law _ (search rules))

pub returns : goal.returns
returns c = rw (c.in-PotentialsProblem.is, c.new.ensures) (begins c.in-PotentialsProblem.nodes c.in-PotentialsProblem.count)
