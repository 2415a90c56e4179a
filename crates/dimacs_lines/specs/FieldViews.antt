-- A field as a part of its line.
use Rattle.dimacs_lines.specs.{declared.scan.Field.{Field}, Fields.{Run}}

abbrev pub view_field : Field → Run
view_field field = record { text = field.text.now; start = field.start }
