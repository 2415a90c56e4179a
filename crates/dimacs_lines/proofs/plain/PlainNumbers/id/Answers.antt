use Rattle.dimacs_lines.proofs.PlainLemmas.{stands_digits}
use Rattle.dimacs_lines.proofs.plain.PlainNumbers.id.Goals as goal

pub returns-clause-stands : goal.returns-clause-stands
returns-clause-stands c = stands_digits c.args.self.now.bytes c.args.self.now.at c.args.stop c.in_ok-id.id c.digits.new.self.at c.in_ok-id.ensures.digits
