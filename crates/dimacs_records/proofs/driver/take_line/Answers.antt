use Rattle.std.proofs.Common.{Ok, Some, None, ◌+◌, arith}
use Rattle.dimacs_records.specs.{Spelling.{texts_in}, LineReader.{ReadsLine}}
use Rattle.dimacs_records.proofs.DriverLemmas.{take_skip, take_record, take_fault}
use Rattle.dimacs_records.proofs.TakenLines.{one_taken_or_not, taken_before}
use Rattle.dimacs_records.proofs.driver.take_line.Goals as goal

pub returns-in-Ok-None-clause-takes : goal.returns-in-Ok-None-clause-takes
returns-in-Ok-None-clause-takes g c = λ before by_line h stands.
    let skip : ReadsLine c.args.kind (texts_in c.args.line.now) (Ok None) = rw c.in-Ok-None.field-0-is at c.in-Ok-None.ensures in
    take_skip c.args.kind before by_line c.args.number c.args.line.now (g.R.Reading.stands_for c.args.reading.now) tt h stands skip

pub returns-in-Ok-Some-clause-takes : goal.returns-in-Ok-Some-clause-takes
returns-in-Ok-Some-clause-takes g c = λ before by_line h stands.
    let line = c.args.line.now in
    let r = c.in-Ok-Some.rec in
    let reads : ReadsLine c.args.kind (texts_in line) (Ok (Some r)) = rw c.in-Ok-Some.field-0-is at c.in-Ok-Some.ensures in
    take_record c.args.kind before by_line c.args.number line r (g.R.Reading.stands_for c.args.reading.now) (g.R.Reading.stands_for c.take.new.self) c.take.result h stands reads.0 reads.1
    c.take.ensures.allowed c.take.ensures.taken c.take.ensures.refused

pub returns-in-Err-clause-takes : goal.returns-in-Err-clause-takes
returns-in-Err-clause-takes g c = λ before by_line h stands.
    take_fault c.args.kind before by_line c.args.number c.args.line.now c.in-Err.fault (g.R.Reading.stands_for c.args.reading.now) h c.in-Err.ensures

pub returns-in-Ok-None-clause-spelled : goal.returns-in-Ok-None-clause-spelled
returns-in-Ok-None-clause-spelled g c = taken_before c.args.kind c.args.number (c.args.number + 1) (g.R.Reading.stands_for c.args.reading.now) (omega arith)

pub returns-in-Ok-Some-clause-spelled : goal.returns-in-Ok-Some-clause-spelled
returns-in-Ok-Some-clause-spelled g c =
    let line = c.args.line.now in
    let r = c.in-Ok-Some.rec in
    let reads : ReadsLine c.args.kind (texts_in line) (Ok (Some r)) = rw c.in-Ok-Some.field-0-is at c.in-Ok-Some.ensures in
    one_taken_or_not c.args.kind c.args.number r (g.R.Reading.stands_for c.args.reading.now) (g.R.Reading.stands_for c.take.new.self) c.take.result (record { texts = texts_in line; spelled = reads.1 }) c.take.ensures.taken
