use Rattle.std.proofs.Common.{◌≡◌, ◌++◌, ◌+◌, subst, sym, arith}
use Rattle.dimacs_lines.specs.OutputBuffers.{IsWritten}
use Rattle.dimacs_records.specs.Canonical.{canonical_text, records_of_line}
use Rattle.dimacs_records.proofs.WrittenLemmas.{lines_after}
use Rattle.dimacs_records.proofs.canonical.write_sparse_lines.Goals as goal

pub loop-i-preserved : goal.loop-i-preserved
loop-i-preserved g c = record {
  within = (c.requires.onward (c.loop-i.i + 1) c.next-i.result c.next-i.ensures).1;
  written = λ below are none start text h.
      let i = c.loop-i.i in
      let more = lines_after start _ _ text (below i) (records_of_line c.line.result) (below (i + 1)) (are.more i c.line.result c.loop-i-test.true c.line.ensures)
      (c.write_if_any.ensures start (text ++ canonical_text (below i)) (c.loop-i.invariant.written below are none start text h)) in
      subst (λ rs. IsWritten start (text ++ canonical_text rs) (g.S.Sink.seen c.write_if_any.new.sink) c.write_if_any.new.output) (sym (none (i + 1) c.next-i.result c.next-i.ensures)) more;
}

pub returns : goal.returns
returns g c = λ below are none start text h.
    let end : c.loop-i.i ≡ c.args.count = omega (arith, c.loop-i-test.false, c.loop-i.invariant.within) in
    subst (λ i. IsWritten start (text ++ canonical_text (below i)) (g.S.Sink.seen c.loop-i.sink) c.loop-i.output) end (c.loop-i.invariant.written below are none start text h)
