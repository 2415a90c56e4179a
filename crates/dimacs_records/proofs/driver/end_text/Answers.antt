use Rattle.dimacs_records.proofs.DriverLemmas.{read_value, read_end_fault}
use Rattle.dimacs_records.proofs.driver.end_text.Goals as goal

pub returns-in-Ok-clause-reads : goal.returns-in-Ok-clause-reads
returns-in-Ok-clause-reads g c = λ all whole.
    read_value (g.R.Reading.kind c.args.reading) g.R.Reading.gives all c.args.count (g.R.Reading.stands_for c.args.reading) c.in-Ok.value whole c.in-Ok.ensures.given c.in-Ok.ensures.complete

pub returns-in-Err-clause-reads : goal.returns-in-Err-clause-reads
returns-in-Err-clause-reads g c = λ all whole.
    rw c.at_line.ensures (read_end_fault (g.R.Reading.kind c.args.reading) g.R.Reading.gives all c.args.count (g.R.Reading.stands_for c.args.reading) c.in-Err.error whole c.in-Err.ensures.refused)
