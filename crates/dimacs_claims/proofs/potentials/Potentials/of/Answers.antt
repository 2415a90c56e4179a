use Rattle.std.proofs.{Common.{sym, rules}, lemmas.Int.{to_z-of_z}}
use Rattle.std.specs.Int.{w128}
use Rattle.dimacs_records.proofs.NameLemmas.{value-without_zeros}
use Rattle.dimacs_claims.proofs.ValueLemmas.{potential_wide}
use Rattle.dimacs_claims.proofs.potentials.Potentials.of.Goals as goal

pub returns-clause-value : goal.returns-clause-value
returns-clause-value c =
    rw (to_z-of_z w128 c.unwrap_or.result (search rules), ← c.self.view_is, c.unwrap_or.ensures, c.get.ensures) (sym (value-without_zeros c.self.inside.values c.args.id))

pub returns-clause-wide : goal.returns-clause-wide
returns-clause-wide c =
    rw (to_z-of_z w128 c.unwrap_or.result (search rules), c.unwrap_or.ensures, c.get.ensures, ← value-without_zeros c.self.inside.values c.args.id) (potential_wide _ c.self.invariant c.args.id)
