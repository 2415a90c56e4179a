-- The records that a reading stands for, and the results of its calls.
use Rattle.std.specs.Prelude.{ℕ, suc, ◌+◌, ◌≡◌, ◌<◌, List, [], ◌∷◌, length, map, Option, Some, None, Result, Ok, Err, IsTrue}
use Rattle.std.specs.List.{All}
use Rattle.dimacs_lines.specs.{Devices.{one_more}, Limits.{most_lines}}
use Rattle.dimacs_records.specs.{declared.kinds.TextKind.{TextKind}, declared.records.Record.{Record}}
use Rattle.dimacs_records.specs.{declared.reasons.Reason.{Reason}, declared.faults.LineFault.{LineFault}}
use Rattle.dimacs_records.specs.{declared.faults.TakeError.{TakeError}, declared.faults.ReadError.{ReadError}}
use Rattle.dimacs_records.specs.{Spelling.{SpellsRecord}, Conditions.{condition, end_condition}}
use Rattle.dimacs_records.specs.Order.{IsRefusedAt, FaultPlace, at, record_places, FirstOf}
use Rattle.dimacs_records.specs.Faults.{IsClean, IsFaultless, FaultyLine, FirstAtEnd, Fault}
use Rattle.dimacs_records.specs.declared.faults.TakeError.TheVariants as take_errors
use Rattle.dimacs_records.specs.declared.faults.ReadError.TheVariants as read_errors

-- a record and the number of its line
pub record LineRecord : Type 0 where
  pub line : ℕ
  pub spells : Record

abbrev pub on_line : ℕ → Record → LineRecord
on_line line r = record { line = line; spells = r }

abbrev pub records_of : List LineRecord → List Record
records_of rs = map (λ (r : LineRecord). r.spells) rs

-- the records of lines, of which the first has number n
abbrev pub numbered : ℕ → List (Option Record) → List LineRecord
numbered n [] = []
numbered n (None ∷ more) = numbered (suc n) more
numbered n (Some r ∷ more) = on_line n r ∷ numbered (suc n) more

-- all records are on lines before this one
abbrev pub AreBefore : ℕ → List LineRecord → Type 0
AreBefore line rs = All (λ (r : LineRecord). r.line < line) rs

-- some line of the kind spells the record
pub record IsOfKind (kind : TextKind) (r : Record) : Type 0 where
  pub texts : List (List ℕ)
  pub spelled : SpellsRecord kind texts r

-- lines before this one can spell these records
pub record AreSpelledBefore (kind : TextKind) (line : ℕ) (rs : List LineRecord) : Type 0 where
  pub of_kind : All (λ (r : LineRecord). IsOfKind kind r.spells) rs
  pub before : AreBefore line rs
  pub few : length rs < line

-- this value is given by records that the lines of a text can spell
abbrev pub IsGivenByLines : {V : Type 0} → TextKind → (List LineRecord → V → Type 0) → V → Type 0
IsGivenByLines kind gives v = (rs : List LineRecord) × gives rs v × AreSpelledBefore kind (most_lines + 1) rs

-- after the earlier records no condition holds for this one
abbrev pub IsAllowed : List Record → Record → Type 0
IsAllowed earlier r = (p : FaultPlace) → ¬ IsRefusedAt earlier r p

abbrev pub IsFirstCondition : List Record → Record → LineFault → Type 0
IsFirstCondition earlier r fault = FirstOf (λ (p : FaultPlace). IsTrue (condition earlier r p.field p.reason)) record_places (at fault.field fault.reason)

-- the record's first condition after the earlier ones, or out of memory
abbrev pub RefusesRecord : List Record → Record → TakeError → Type 0
RefusesRecord earlier r (take_errors.Refused fault) = IsFirstCondition earlier r fault
RefusesRecord earlier r take_errors.Memory = Unit {0}

-- no condition holds at the end of a text of these records
abbrev pub IsComplete : TextKind → List Record → Type 0
IsComplete kind all = (reason : Reason) → ¬ IsTrue (end_condition kind all reason)

-- the first condition at the end, or out of memory
abbrev pub RefusesEnd : TextKind → List Record → TakeError → Type 0
RefusesEnd kind all (take_errors.Refused fault) = (fault.field ≡ 0) × FirstAtEnd kind all fault.reason
RefusesEnd kind all take_errors.Memory = Unit {0}

-- the lines have no fault, and their records give this value
pub record GiveValue {V : Type 0} (kind : TextKind) (gives : List LineRecord → V → Type 0) (all : List (List ℕ)) (v : V) : Type 0 where
  pub by_line : List (Option Record)
  pub faultless : IsFaultless kind all by_line
  pub given : gives (numbered 1 by_line) v

-- the value of lines without a fault, or their fault
abbrev pub ReadsLines : {V : Type 0} → TextKind → (List LineRecord → V → Type 0) → List (List ℕ) → Result V ReadError → Type 0
ReadsLines kind gives all (Ok v) = GiveValue kind gives all v
ReadsLines kind gives all (Err (read_errors.Refused place reason)) = Fault kind all place.line place.field reason
ReadsLines kind gives all (Err read_errors.Device) = Unit {0}
ReadsLines kind gives all (Err read_errors.Memory) = Unit {0}

-- the reading stands for some records that lines before this one can spell
abbrev pub HasTaken : TextKind → ℕ → (List LineRecord → Type 0) → Type 0
HasTaken kind line stands_for = (rs : List LineRecord) × stands_for rs × AreSpelledBefore kind line rs

-- all lines are read
pub record IsReadWhole (kind : TextKind) (all : List (List ℕ)) (count : ℕ) (stands_for : List LineRecord → Type 0) : Type 0 where
  pub by_line : List (Option Record)
  pub counted : count ≡ length all
  pub clean : IsClean kind all by_line
  pub stands : stands_for (numbered 1 by_line)

-- why a line is refused; I/O errors and out of memory are left open
abbrev pub RefusesLine : TextKind → List (List ℕ) → ReadError → Type 0
RefusesLine kind all (read_errors.Refused place reason) = FaultyLine kind all place.line place.field reason
RefusesLine kind all read_errors.Device = Unit {0}
RefusesLine kind all read_errors.Memory = Unit {0}

-- the result of reading all lines: how many there are
abbrev pub ReadsAll : TextKind → List (List ℕ) → (List LineRecord → Type 0) → Result ℕ ReadError → Type 0
ReadsAll kind all stands_for (Ok count) = IsReadWhole kind all count stands_for
ReadsAll kind all stands_for (Err error) = RefusesLine kind all error

-- the source's faults after a reading: one more after the error `Device`, otherwise the same
abbrev pub CountsRead : {V : Type 0} → Result V ReadError → ℕ → ℕ → Type 0
CountsRead (Ok v) old new = new ≡ old
CountsRead (Err (read_errors.Refused place reason)) old new = new ≡ old
CountsRead (Err read_errors.Device) old new = new ≡ one_more old
CountsRead (Err read_errors.Memory) old new = new ≡ old
