use Rattle.std.proofs.Common.{rules}
use Rattle.dimacs_lines.proofs.numbers.number_in_range.Goals as goal

-- written out, since what is tried without an answer takes longer
pub returns-then-n-low : goal.returns-then-n-low
returns-then-n-low c = search rules

pub returns : goal.returns
returns c = search rules
