use Rattle.std.proofs.Common.{◌≡◌, ◌≤◌, ◌+◌, ◌-◌, List, ℕ}
use Rattle.dimacs_lines.specs.{Reader.{text_left}, declared.reader.Progress.TheVariants.{Open}, Limits.{most_lines}}
use Rattle.dimacs_records.specs.{Readings.{HasTaken}, inside.Driver.{IsReadSoFar}}
use Rattle.dimacs_records.proofs.driver.read_lines.Given as goal

-- so many lines were read without an I/O error
abbrev pub invariant-loop-lines : goal.invariant-loop-lines
invariant-loop-lines g l = record {
  kind : g.R.Reading.kind l.reading ≡ l.kind;
  goes_on : l.lines.progress ≡ Open;
  within_limit : l.lines.given ≤ most_lines;
  read : (all : List (List ℕ)) → IsReadSoFar l.kind all l.fn.lines.given (text_left l.fn.lines (g.S.Source.coming l.fn.source)) (g.R.Reading.stands_for l.fn.reading)
      → IsReadSoFar l.kind all l.lines.given (text_left l.lines (g.S.Source.coming l.source)) (g.R.Reading.stands_for l.reading);
  spelled : HasTaken l.kind (l.fn.lines.given + 1) (g.R.Reading.stands_for l.fn.reading) → HasTaken l.kind (l.lines.given + 1) (g.R.Reading.stands_for l.reading);
  fixed : g.R.Reading.fixed l.reading ≡ g.R.Reading.fixed l.fn.reading;
  kept : (value : _) → g.R.Reading.keeps l.reading value → g.R.Reading.keeps l.fn.reading value;
  sound : g.S.Source.faults l.source ≡ g.S.Source.faults l.fn.source;
}

abbrev pub decreases-loop-lines : goal.decreases-loop-lines
decreases-loop-lines g l = most_lines - l.lines.given
