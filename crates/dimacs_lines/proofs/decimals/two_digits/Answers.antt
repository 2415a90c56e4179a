use Rattle.dimacs_lines.proofs.DecimalLemmas.{table_at}
use Rattle.dimacs_lines.proofs.decimals.two_digits.Goals as goal

pub returns : goal.returns
returns c = let at = table_at c.args.n c.requires in rw (at.0, at.1)
