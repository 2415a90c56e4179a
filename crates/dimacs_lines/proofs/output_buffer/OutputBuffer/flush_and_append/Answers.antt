use Rattle.std.proofs.Common.{◌≡◌, ◌∙◌, [], ◌++◌, take, sym, ap, subst}
use Rattle.dimacs_lines.specs.OutputBuffers.{BufferState, IsWrittenBy, IsWritten}
use Rattle.dimacs_lines.proofs.PageLemmas.{IsWritten-kept, IsWritten-put}
use Rattle.dimacs_lines.proofs.output_buffer.OutputBuffer.flush_and_append.Goals as goal

pub returns-then-bytes-gt-CAPACITY : goal.returns-then-bytes-gt-CAPACITY
returns-then-bytes-gt-CAPACITY g c =
    let mid = g.S.Sink.seen c.flush.new.sink in
    let failed = c.self.inside.failed in
    let after = c.put_unless_failed-self-inside.result in
    let new = g.S.Sink.seen c.put_unless_failed-self-inside.new.sink in
    let bytes = c.args.bytes.now in
    let none : take c.self.inside.length c.self.inside.bytes ≡ [] = ap (λ (output : BufferState). output.kept) c.self.view_is ∙ c.flush.ensures.empty in
    λ start text h.
    let flushed : IsWritten start text mid c.flush.new.self = c.flush.ensures.written start text h in
    let was : IsWrittenBy failed start text mid (take c.self.inside.length c.self.inside.bytes) = subst (IsWritten start text mid) (sym c.self.view_is) flushed in
    let nothing : IsWrittenBy failed start text mid [] = rw none at was in
    let put : IsWrittenBy after start (text ++ bytes) new [] = IsWritten-put failed after start mid new (text ++ bytes) bytes c.put_unless_failed-self-inside.ensures (IsWritten-kept failed start mid text [] bytes nothing) in
    subst (λ kept. IsWrittenBy after start (text ++ bytes) new kept) (sym none) put
