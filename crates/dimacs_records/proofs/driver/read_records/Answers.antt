use Rattle.std.proofs.Common.{ap}
use Rattle.dimacs_lines.specs.{Lines.{lines}, Reader.{State}}
use Rattle.dimacs_records.proofs.DriverLemmas.{read_nothing}
use Rattle.dimacs_records.proofs.driver.read_records.Goals as goal

pub returns-clause-reads : goal.returns-clause-reads
returns-clause-reads g c = λ text h.
    let begun = read_nothing c.args.kind c.in_ok-lines.lines text (g.S.Source.coming c.args.source.now) (g.R.Reading.stands_for c.args.reading.now) (ap (λ (s : State). s.held) c.in_ok-lines.ensures) h c.requires.new in
    let given = ap (λ (s : State). s.given) c.in_ok-lines.ensures in
    c.read_lines.ensures.reads (lines text) (rw given begun)
