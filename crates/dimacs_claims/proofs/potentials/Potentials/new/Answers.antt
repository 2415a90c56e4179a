use Rattle.std.proofs.Common.{ap}
use Rattle.dimacs_records.proofs.NameLemmas.{without_zeros-empty}
use Rattle.dimacs_claims.proofs.ValueLemmas.{zero_law}
use Rattle.dimacs_claims.proofs.potentials.Potentials.new.Goals as goal

pub invariant_of-result : goal.invariant_of-result
invariant_of-result c = rw (c.new.ensures, without_zeros-empty) (zero_law c.args.nodes c.requires)

pub returns : goal.returns
returns c = rw (c.new.ensures) (ap (λ m. record { nodes = c.args.nodes; values = m }) without_zeros-empty)
