use Rattle.std.proofs.Common.{rules, ◌∙◌}
use Rattle.dimacs_lines.proofs.ReaderLemmas.{answers_left}
use Rattle.dimacs_lines.proofs.reader.Lines.next_line.Goals as goal

pub returns-in-Ok-clause-answer : goal.returns-in-Ok-clause-answer
returns-in-Ok-clause-answer g c = λ is_open.
    let found = c.in-Ok.ensures in
    answers_left c.give_line.result c.args.self.now c.find_end.new.self c.give_line.new.self _ _ found.given (found.progress ∙ is_open) found.left found.enough c.give_line.ensures.given

-- written out, since what is tried without an answer takes longer
pub returns-in-Ok-clause-faults : goal.returns-in-Ok-clause-faults
returns-in-Ok-clause-faults g c = search rules

pub returns-in-Err-clause-answer : goal.returns-in-Err-clause-answer
returns-in-Err-clause-answer g c = search rules

pub returns-in-Err-clause-faults : goal.returns-in-Err-clause-faults
returns-in-Err-clause-faults g c = search rules
