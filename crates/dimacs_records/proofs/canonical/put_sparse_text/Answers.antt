use Rattle.std.proofs.Common.{◌++◌, [], refl}
use Rattle.dimacs_records.proofs.WrittenLemmas.{lines_after}
use Rattle.dimacs_records.proofs.canonical.put_sparse_text.Goals as goal

pub returns : goal.returns
returns g c = λ below are none.
    let start = g.S.Sink.seen c.args.sink.now in
    let first = c.args.first.now in
    let rest = below c.args.count in
    let begun = c.write_all.ensures start [] (c.new-output.ensures.written start) in
    c.finish.ensures start _ (lines_after start _ _ [] first rest (first ++ rest) refl (c.write_sparse_lines.ensures below are none start _ begun))
