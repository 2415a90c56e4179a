-- The theorem about canonical texts.
use Rattle.std.specs.{Prelude.{◌≤◌, List, Some, length, map}, List.{All}}
use Rattle.dimacs_lines.specs.{Lines.{lines}, Limits.{most_lines}}
use Rattle.dimacs_records.specs.{declared.kinds.TextKind.{TextKind}, declared.records.Record.{Record}}
use Rattle.dimacs_records.specs.{Canonical.{canonical_text, CanBeSpelled}, Texts.{AreSpelled}}

-- if lines of the kind can spell these records, their canonical lines are within the limits and spell exactly them
abbrev pub CanonicalLaw : Type 0
CanonicalLaw = (kind : TextKind) (rs : List Record) → All (CanBeSpelled kind) rs → length rs ≤ most_lines
    → AreSpelled kind (lines (canonical_text rs)) (map (λ (r : Record). Some r) rs)
