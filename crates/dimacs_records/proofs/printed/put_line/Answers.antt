use Rattle.std.proofs.Common.{[]}
use Rattle.dimacs_records.specs.Printed.{printed_line}
use Rattle.dimacs_records.proofs.printed.put_line.Goals as goal

pub returns : goal.returns
returns g c =
    let start = g.S.Sink.seen c.args.sink.now in
    c.finish.ensures start (printed_line c.args.word.now c.args.parts.now) (c.write_line.ensures start [] (c.new-output.ensures.written start))
