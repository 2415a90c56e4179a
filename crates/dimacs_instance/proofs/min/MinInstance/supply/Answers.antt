use Rattle.std.proofs.{Common.{sym, w64, rules}, lemmas.Int.{to_z-of_z}}
use Rattle.dimacs_records.proofs.NameLemmas.{value-without_zeros}
use Rattle.dimacs_instance.proofs.min.MinInstance.supply.Goals as goal

pub returns : goal.returns
returns g c =
    rw (to_z-of_z w64 c.unwrap_or.result (search rules), ← c.self.view_is, c.unwrap_or.ensures, c.get.ensures) (sym (value-without_zeros c.self.inside.supplies c.args.id))
