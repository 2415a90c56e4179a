use Rattle.std.proofs.Common.{◌≡◌, ◌+◌, ◌-◌, ◌≤◌, ℕ, List, Option, length, take, drop}
use Rattle.dimacs_lines.specs.{Devices.{before_piece}, Lines.{AreWholeLines}}
use Rattle.dimacs_records.specs.{Readings.{HasTaken}, inside.Driver.{IsReadSoFar}}
use Rattle.dimacs_records.proofs.driver.take_plain.Given as goal

-- so many lines and bytes of the buffer were taken
abbrev pub invariant-loop-line : goal.invariant-loop-line
invariant-loop-line g l = record {
  kind : g.R.Reading.kind l.reading ≡ l.kind;
  within : l.bytes ≤ length l.held;
  whole : AreWholeLines (take l.bytes l.held) l.lines;
  few : l.lines ≤ l.bytes;
  read : (all : List (List ℕ)) (coming : Option (List ℕ)) → IsReadSoFar l.kind all l.given (before_piece l.held coming) (g.R.Reading.stands_for l.fn.reading)
      → IsReadSoFar l.kind all (l.given + l.lines) (before_piece (drop l.bytes l.held) coming) (g.R.Reading.stands_for l.reading);
  spelled : HasTaken l.kind (l.given + 1) (g.R.Reading.stands_for l.fn.reading) → HasTaken l.kind (l.given + l.lines + 1) (g.R.Reading.stands_for l.reading);
  fixed : g.R.Reading.fixed l.reading ≡ g.R.Reading.fixed l.fn.reading;
  kept : (value : _) → g.R.Reading.keeps l.reading value → g.R.Reading.keeps l.fn.reading value;
}

abbrev pub decreases-loop-line : goal.decreases-loop-line
decreases-loop-line g l = length l.held - l.bytes
