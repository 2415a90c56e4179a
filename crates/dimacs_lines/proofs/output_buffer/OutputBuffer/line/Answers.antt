use Rattle.dimacs_lines.specs.OutputBuffers.{numbers_line}
use Rattle.dimacs_lines.proofs.PageLemmas.{IsWritten-kept}
use Rattle.dimacs_lines.proofs.output_buffer.OutputBuffer.line.Goals as goal

pub returns : goal.returns
returns g c = λ start text h.
    rw (c.append_line.ensures.appended, c.append_line.ensures.failed)
    (IsWritten-kept c.make_room.new.self.failed start (g.S.Sink.seen c.make_room.new.sink) text c.make_room.new.self.kept (numbers_line c.args.letter c.args.numbers.now) (c.make_room.ensures.written start text h))
