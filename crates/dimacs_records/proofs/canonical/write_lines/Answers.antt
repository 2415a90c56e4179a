use Rattle.std.proofs.Common.{◌≡◌, ◌++◌, ◌+◌, subst, arith}
use Rattle.dimacs_lines.specs.OutputBuffers.{IsWritten}
use Rattle.dimacs_records.specs.Canonical.{canonical_text, records_of_line}
use Rattle.dimacs_records.proofs.WrittenLemmas.{lines_after}
use Rattle.dimacs_records.proofs.canonical.write_lines.Goals as goal

pub loop-i-preserved : goal.loop-i-preserved
loop-i-preserved g c = record {
  within = omega (arith, c.loop-i-test.true);
  written = λ below are start text h.
      let i = c.loop-i.i in
      lines_after start _ _ text (below i) (records_of_line c.line.result) (below (i + 1)) (are.more i c.line.result c.loop-i-test.true c.line.ensures)
      (c.write_if_any.ensures start (text ++ canonical_text (below i)) (c.loop-i.invariant.written below are start text h));
}

pub returns : goal.returns
returns g c = λ below are start text h.
    let end : c.loop-i.i ≡ c.args.count = omega (arith, c.loop-i-test.false, c.loop-i.invariant.within) in
    subst (λ i. IsWritten start (text ++ canonical_text (below i)) (g.S.Sink.seen c.loop-i.sink) c.loop-i.output) end (c.loop-i.invariant.written below are start text h)
