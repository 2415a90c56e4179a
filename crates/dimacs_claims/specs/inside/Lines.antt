-- Inside: the lines of labels in a text of either kind.
use Rattle.dimacs_records.specs.{declared.kinds.TextKind.{TextKind}, declared.kinds.TextKind.TheVariants.{Distances}}
use Rattle.dimacs_records.specs.declared.records.Record.{Record}
use Rattle.dimacs_claims.specs.{declared.label_list.Label.{Label}, DistanceTexts.{bare}, LabelTexts.{label_line}}

-- a line of labels as a line of this kind
abbrev pub in_kind : TextKind → Record → Record
in_kind Distances r = bare r
in_kind kind r = r

abbrev pub line_in_kind : TextKind → Label → Record
line_in_kind kind l = in_kind kind (label_line l)
