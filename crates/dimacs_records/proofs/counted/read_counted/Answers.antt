use Rattle.dimacs_lines.specs.Lines.{lines}
use Rattle.dimacs_records.proofs.ReadLaws.{reads_exactly}
use Rattle.dimacs_records.proofs.counted.read_counted.Goals as goal

pub returns-clause-reads : goal.returns-clause-reads
returns-clause-reads g c = λ text coming.
    let reads = rw c.kind.ensures.kind at (c.read_text.ensures.reads text coming) in
    reads_exactly g.B.Builder.kind g.B.Builder.gives (lines text) c.read_text.result c.kind.ensures.faultless c.kind.ensures.one_value reads
