use Rattle.dimacs_lines.proofs.DecimalLemmas.{first_count, first_digits_at}
use Rattle.dimacs_lines.proofs.decimals.first_digits.Goals as goal

pub returns-clause-count : goal.returns-clause-count
returns-clause-count c = rw c.from-single.ensures (first_count c.args.n c.requires)

pub returns-clause-digits : goal.returns-clause-digits
returns-clause-digits c = rw c.from-single.ensures (first_digits_at c.args.n c.requires)
