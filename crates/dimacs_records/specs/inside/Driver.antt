-- Inside: how far a text has been read.
use Rattle.std.specs.Prelude.{ℕ, ◌+◌, ◌≡◌, ◌≤◌, List, [], ◌∷◌, ◌++◌, length, Option, Some, None, Result, Ok, Err}
use Rattle.dimacs_lines.specs.{Lines.{lines}, declared.reader.LinesError.{LinesError}}
use Rattle.dimacs_lines.specs.Limits.{longest_line, most_lines}
use Rattle.dimacs_records.specs.{declared.kinds.TextKind.{TextKind}, declared.records.Record.{Record}}
use Rattle.dimacs_records.specs.{declared.faults.ReadError.{ReadError}, declared.faults.TakeError.{TakeError}}
use Rattle.dimacs_records.specs.declared.reasons.Reason.TheVariants.{LineTooLong, LineLimit}
use Rattle.dimacs_records.specs.{Order.{at, places, FirstOf}, Faults.{Condition, IsClean, records_in}}
use Rattle.dimacs_records.specs.Readings.{LineRecord, numbered, IsReadWhole, RefusesLine}
use Rattle.dimacs_records.specs.declared.faults.ReadError.TheVariants as read_errors
use Rattle.dimacs_lines.specs.declared.reader.LinesError.TheVariants as line_errors
use Rattle.dimacs_records.specs.declared.faults.TakeError.TheVariants as take_errors

-- the first `count` lines are read and clean, the reading stands for their records, and this text is left
pub record IsReadSoFar (kind : TextKind) (all : List (List ℕ)) (count : ℕ) (left : Option (List ℕ)) (stands_for : List LineRecord → Type 0) : Type 0 where
  pub before : List (List ℕ)
  pub by_line : List (Option Record)
  pub rest : List ℕ
  pub left_is : left ≡ Some rest
  pub all_is : all ≡ before ++ lines rest
  pub counted : count ≡ length before
  pub clean : IsClean kind before by_line
  pub stands : stands_for (numbered 1 by_line)

-- the result of reading one more line
abbrev pub ReadsNext : TextKind → List (List ℕ) → ℕ → Option (List ℕ) → (List LineRecord → Type 0) → Result (Option ℕ) ReadError → Type 0
ReadsNext kind all count left stands_for (Ok (Some number)) = IsReadSoFar kind all number left stands_for
ReadsNext kind all count left stands_for (Ok None) = IsReadWhole kind all count stands_for
ReadsNext kind all count left stands_for (Err error) = RefusesLine kind all error

-- the result of reading some lines
abbrev pub ReadsSome : TextKind → List (List ℕ) → ℕ → Option (List ℕ) → (List LineRecord → Type 0) → Result Unit ReadError → Type 0
ReadsSome kind all count left stands_for (Ok done) = IsReadSoFar kind all count left stands_for
ReadsSome kind all count left stands_for (Err error) = RefusesLine kind all error

-- the result of taking one more line: it is clean and the reading stands for its record too; or its first condition
abbrev pub TakesLine : TextKind → List (List ℕ) → List (Option Record) → List ℕ → (List LineRecord → Type 0) → Result Unit TakeError → Type 0
TakesLine kind before by_line line stands_for (Ok done) = (more : List (Option Record)) × IsClean kind (before ++ line ∷ []) more × stands_for (numbered 1 more)
TakesLine kind before by_line line stands_for (Err (take_errors.Refused fault)) =
    FirstOf (Condition kind (records_in by_line) (length before + 1) line) places (at fault.field fault.reason)
TakesLine kind before by_line line stands_for (Err take_errors.Memory) = Unit {0}

-- a line within the limits, after lines that were read
pub record ComesAfter (kind : TextKind) (before : List (List ℕ)) (by_line : List (Option Record)) (number : ℕ) (line : List ℕ) : Type 0 where
  pub clean : IsClean kind before by_line
  pub next : number ≡ length before + 1
  pub few : number ≤ most_lines
  pub short : length line ≤ longest_line

-- the refusal of a record, with its line
abbrev pub read_error : ℕ → TakeError → ReadError
read_error line (take_errors.Refused fault) = read_errors.Refused (record { line = line; field = fault.field }) fault.reason
read_error line take_errors.Memory = read_errors.Memory

-- the refusal or the error of a reader of lines
abbrev pub lines_error : LinesError → ReadError
lines_error (line_errors.TooMany line) = read_errors.Refused (record { line = line; field = 0 }) LineLimit
lines_error (line_errors.TooLong line) = read_errors.Refused (record { line = line; field = 0 }) LineTooLong
lines_error line_errors.Device = read_errors.Device
lines_error line_errors.Memory = read_errors.Memory
