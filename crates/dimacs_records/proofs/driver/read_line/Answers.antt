use Rattle.std.proofs.Common.{◌≡◌, ◌+◌, Ok, Err, arith}
use Rattle.dimacs_lines.specs.Reader.{GivesLine, AtEnd, text_left}
use Rattle.dimacs_records.proofs.{DriverLemmas.{read_end, read_one, stopped}, driver.read_line.Goals.{In-Ok-Some}}
use Rattle.dimacs_records.proofs.driver.read_line.Goals as goal

-- the line that was given
given : (g : _) (c : In-Ok-Some g) → GivesLine c.args.lines.now c.next_line.new.self (text_left c.args.lines.now (g.S.Source.coming c.args.source.now)) (text_left c.next_line.new.self (g.S.Source.coming c.next_line.new.source)) c.in-Ok-Some.number
given g c = rw c.in-Ok-Some.field-0-is at (c.in-Ok-Some.ensures.answer c.requires.open)

pub returns-in-Err-clause-reads : goal.returns-in-Err-clause-reads
returns-in-Err-clause-reads g c = λ all h. rw c.lines_error.ensures (stopped c.args.kind all _ _ _ (text_left c.next_line.new.self (g.S.Source.coming c.next_line.new.source)) _ (g.R.Reading.stands_for c.args.reading.now) c.in-Err.error (c.in-Err.ensures.answer c.requires.open) h)

pub returns-in-Ok-None-clause-reads : goal.returns-in-Ok-None-clause-reads
returns-in-Ok-None-clause-reads g c = λ all h.
    let new = c.next_line.new.self in
    let left = text_left c.args.lines.now (g.S.Source.coming c.args.source.now) in
    let end : AtEnd new left = rw c.in-Ok-None.field-0-is at (c.in-Ok-None.ensures.answer c.requires.open) in
    read_end c.args.kind all c.args.lines.now.given new left (g.R.Reading.stands_for c.args.reading.now) end h

pub returns-in-Ok-clause-reads : goal.returns-in-Ok-clause-reads
returns-in-Ok-clause-reads g c = λ all h.
    read_one c.args.kind all _ _ _ _ _ _ _ _ (Ok c.in-Ok.field-0) c.line.ensures (given g (goal.at.returns-in-Ok-clause-reads g c).In-Ok-Some) h c.in-Ok.ensures.takes

pub returns-in-Err-take_line-clause-reads : goal.returns-in-Err-take_line-clause-reads
returns-in-Err-take_line-clause-reads g c = λ all h. rw c.at_line.ensures
    (read_one c.args.kind all _ _ _ _ _ _ _ (g.R.Reading.stands_for c.take_line.new.reading) (Err c.in-Err-take_line.error) c.line.ensures (given g (goal.at.returns-in-Err-take_line-clause-reads g c).In-Ok-Some) h c.in-Err-take_line.ensures.takes)

pub returns-in-Ok-None-clause-spelled : goal.returns-in-Ok-None-clause-spelled
returns-in-Ok-None-clause-spelled g c = λ before.
    let same : c.args.lines.now.given + 1 + 0 ≡ c.args.lines.now.given + 1 = omega arith in
    rw same before

pub returns-in-Ok-clause-spelled : goal.returns-in-Ok-clause-spelled
returns-in-Ok-clause-spelled g c = rw (given g (goal.at.returns-in-Ok-clause-spelled g c).In-Ok-Some).next at c.in-Ok.ensures.spelled
