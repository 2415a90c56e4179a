-- The result of reading a line.
use Rattle.std.specs.Prelude.{ℕ, ◌≡◌, true, false, List, Option, Some, None, Result, Ok, Err, IsTrue}
use Rattle.dimacs_records.specs.{declared.kinds.TextKind.{TextKind}, declared.records.Record.{Record}}
use Rattle.dimacs_records.specs.{declared.faults.LineFault.{LineFault}, Spelling.{SpellsRecord, is_skip}}
use Rattle.dimacs_records.specs.{Shapes.{shape_condition}, Order.{FaultPlace, at, shape_places, FirstOf}}

-- a skipped line, the record that the fields spell, or the first condition of the shape
abbrev pub ReadsLine : TextKind → List (List ℕ) → Result (Option Record) LineFault → Type 0
ReadsLine kind texts (Ok None) = is_skip texts ≡ true
ReadsLine kind texts (Ok (Some r)) = (is_skip texts ≡ false) × SpellsRecord kind texts r
ReadsLine kind texts (Err fault) = (is_skip texts ≡ false)
    × FirstOf (λ (p : FaultPlace). IsTrue (shape_condition kind texts p.field p.reason)) shape_places (at fault.field fault.reason)
