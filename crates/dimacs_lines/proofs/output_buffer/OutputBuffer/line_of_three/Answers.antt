use Rattle.std.proofs.{Common.{w64}, lemmas.Int.{to_z-of_z}}
use Rattle.dimacs_lines.proofs.PageLemmas.{IsWritten-kept}
use Rattle.dimacs_lines.proofs.output_buffer.OutputBuffer.line_of_three.Goals as goal

pub returns : goal.returns
returns g c = λ start text h.
    rw (c.append_line_of_three.ensures.appended, c.append_line_of_three.ensures.failed, to_z-of_z w64 c.args.first c.ranges.first, to_z-of_z w64 c.args.second c.ranges.second, to_z-of_z w64 c.args.third c.ranges.third)
    (IsWritten-kept c.make_room.new.self.failed start (g.S.Sink.seen c.make_room.new.sink) text c.make_room.new.self.kept _ (c.make_room.ensures.written start text h))
