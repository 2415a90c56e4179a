use Rattle.std.proofs.Common.{ap, []}
use Rattle.dimacs_records.proofs.NameLemmas.{without_zeros-empty}
use Rattle.dimacs_instance.proofs.SupplyLemmas.{empty_min}
use Rattle.dimacs_instance.proofs.min.MinInstance+PlainArcs+ArcView.new.Goals as goal

pub invariant_of-result : goal.invariant_of-result
invariant_of-result c = rw (c.new.ensures, c.new-2.ensures, without_zeros-empty) (empty_min c.args.nodes c.requires.nodes)

pub returns : goal.returns
returns c = rw (c.new.ensures, c.new-2.ensures) (ap (λ m. record { nodes = c.args.nodes; supplies = m; arcs = [] }) without_zeros-empty)
