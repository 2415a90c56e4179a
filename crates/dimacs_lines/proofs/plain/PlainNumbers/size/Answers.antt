use Rattle.dimacs_lines.proofs.PlainLemmas.{as_signed, stands_digits}
use Rattle.dimacs_lines.proofs.plain.PlainNumbers.size.Goals as goal

pub returns-clause-stands : goal.returns-clause-stands
returns-clause-stands c =
    rw (as_signed _ c.in_ok-size.ensures.range) (stands_digits c.args.self.now.bytes c.args.self.now.at c.args.stop _ c.sixteen_digits.new.self.at c.in_ok-size.ensures.digits)
