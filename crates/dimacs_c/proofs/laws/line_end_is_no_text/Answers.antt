use Rattle.dimacs_c.proofs.LineEnd.{line_end}
use Rattle.dimacs_c.proofs.laws.line_end_is_no_text.Goals as goal

pub returns : goal.returns
returns c = line_end
