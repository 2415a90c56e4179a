use Rattle.std.proofs.Common.{◌∙◌}
use Rattle.dimacs_judging.proofs.BlockNumbers.{numbered_tells}
use Rattle.dimacs_judging.proofs.queries.is_served.Goals as goal

pub returns-in-Pairs : goal.returns-in-Pairs
returns-in-Pairs c = rw c.in-Pairs.is (numbered_tells c.args.labels.now.blocks c.args.source c.get.result c.is_some.result c.is_some.ensures (c.get.ensures ∙ c.requires c.args.source))
