use Rattle.std.proofs.Common.{ap, ◌∙◌}
use Rattle.std.specs.Prelude.{pos, unwrap_or}
use Rattle.dimacs_network.proofs.SkipLemmas.{Skips-weaker}
use Rattle.dimacs_records.proofs.NameLemmas.{value-without_zeros}
use Rattle.dimacs_claims.proofs.potentials.Potentials.next.Goals as goal

pub returns : goal.returns
returns c = rw (← c.self.view_is) (Skips-weaker _ _ _ _ _ (λ id none. value-without_zeros c.self.inside.values id ∙ ap (λ o. unwrap_or o (pos 0)) none) c.next.ensures)
