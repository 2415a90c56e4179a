use Rattle.std.proofs.{Common.{◌/◌, ◌≤◌, length, arith, append_assoc}, lemmas.Fmt.{length-decimal-le}}
use Rattle.std.proofs.lemmas.List.{length-append}
use Rattle.std.specs.Fmt.{decimal}
use Rattle.itoa.proofs.Decimal.{decimal_four}
use Rattle.dimacs_lines.proofs.output_buffer.OutputBuffer.append_digits.Goals as goal

pub append_four-requires-clause-room : goal.append_four-requires-clause-room
append_four-requires-clause-room c =
    let n = c.args.n in
    let few : length (decimal (n / 10000)) ≤ 4 = length-decimal-le 4 (n / 10000) (omega arith) (omega arith) (omega arith) in
    rw c.append_short-then-n-lt100000000.ensures.appended (omega (arith, length-append c.args.self.now.kept (decimal (n / 10000)), few))

pub returns-then-n-lt100000000-clause-appended : goal.returns-then-n-lt100000000-clause-appended
returns-then-n-lt100000000-clause-appended c =
    rw (c.append_four.ensures.appended, c.append_short-then-n-lt100000000.ensures.appended, decimal_four c.args.n c.if-n-lt10000.false (omega arith), append_assoc)
