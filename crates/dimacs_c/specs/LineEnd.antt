-- The theorem: a text of a line end alone is refused, whatever its kind.
use Rattle.std.specs.Prelude.{List, [], ◌∷◌, Option}
use Rattle.dimacs_lines.specs.Lines.{lines}
use Rattle.dimacs_records.specs.{declared.kinds.TextKind.{TextKind}, declared.records.Record.{Record}}
use Rattle.dimacs_records.specs.Faults.{Fault, IsFaultless}
use Rattle.dimacs_runs.specs.InMemory.{lacking}

-- a text of a line end has this fault at its end, and spells nothing
abbrev pub LineEndLaw : Type 0
LineEndLaw = (kind : TextKind) → Fault kind (lines (10 ∷ [])) 2 0 (lacking kind) × ((by_line : List (Option Record)) → ¬ IsFaultless kind (lines (10 ∷ [])) by_line)
