use Rattle.std.proofs.{Common.{w64, ◌∷◌, []}, lemmas.Int.{to_z-of_z}}
use Rattle.dimacs_lines.proofs.PageLemmas.{line_of_three_fields}
use Rattle.dimacs_lines.proofs.output_buffer.OutputBuffer.append_line_of_three.Goals as goal

pub returns-clause-appended : goal.returns-clause-appended
returns-clause-appended c =
    rw (c.append-2.ensures.appended, c.append_field-3.ensures.appended, c.append_field-2.ensures.appended, c.append_field.ensures.appended, c.append.ensures.appended, to_z-of_z w64 c.args.first c.ranges.first, to_z-of_z w64 c.args.second c.ranges.second, to_z-of_z w64 c.args.third c.ranges.third)
    (line_of_three_fields c.args.self.now.kept (c.args.letter ∷ []) _ _ _ _)
