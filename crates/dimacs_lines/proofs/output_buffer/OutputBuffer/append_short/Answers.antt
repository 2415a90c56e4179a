use Rattle.std.proofs.{Common.{◌/◌, ◌≤◌, length, arith, append_assoc}, lemmas.Fmt.{length-decimal-le}}
use Rattle.std.proofs.lemmas.List.{length-append}
use Rattle.std.specs.Fmt.{decimal}
use Rattle.itoa.proofs.Decimal.{decimal_pair}
use Rattle.dimacs_lines.proofs.output_buffer.OutputBuffer.append_short.Goals as goal

pub append-requires : goal.append-requires
append-requires c =
    let n = c.args.n in
    let few : length (decimal (n / 100)) ≤ 2 = length-decimal-le 2 (n / 100) (omega arith) (omega arith) (omega arith) in
    rw (c.append_first-else-n-lt100.ensures.appended, c.two_digits.ensures) (omega (arith, length-append c.args.self.now.kept (decimal (n / 100)), few))

pub returns-else-n-lt100-clause-appended : goal.returns-else-n-lt100-clause-appended
returns-else-n-lt100-clause-appended c =
    rw (c.append.ensures.appended, c.append_first-else-n-lt100.ensures.appended, c.two_digits.ensures, decimal_pair c.args.n c.if-n-lt100.false (omega arith), append_assoc)
