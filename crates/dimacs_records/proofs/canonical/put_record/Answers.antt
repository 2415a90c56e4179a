use Rattle.std.proofs.Common.{[]}
use Rattle.dimacs_records.specs.Canonical.{canonical_line}
use Rattle.dimacs_records.proofs.canonical.put_record.Goals as goal

pub returns : goal.returns
returns g c =
    let start = g.S.Sink.seen c.args.sink.now in
    c.finish.ensures start (canonical_line c.args.rec.now) (c.write_record.ensures start [] (c.new-output.ensures.written start))
