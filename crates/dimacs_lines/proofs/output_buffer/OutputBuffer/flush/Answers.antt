use Rattle.std.proofs.Common.{take, sym, subst}
use Rattle.dimacs_lines.specs.OutputBuffers.{IsWrittenBy, IsWritten}
use Rattle.dimacs_lines.proofs.PageLemmas.{IsWritten-put}
use Rattle.dimacs_lines.proofs.output_buffer.OutputBuffer.flush.Goals as goal

pub returns-clause-written : goal.returns-clause-written
returns-clause-written g c =
    let old = g.S.Sink.seen c.args.sink.now in
    let kept = take c.self.inside.length c.self.inside.bytes in
    λ start text h.
    let was : IsWrittenBy c.self.inside.failed start text old kept = subst (IsWritten start text old) (sym c.self.view_is) h in
    IsWritten-put c.self.inside.failed c.put_unless_failed-self-inside.result start old _ text kept c.put_unless_failed-self-inside.ensures was
