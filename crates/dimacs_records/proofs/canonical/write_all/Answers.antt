use Rattle.std.proofs.{Common.{length, take, arith}, lemmas.List.{take_all}}
use Rattle.dimacs_records.proofs.WrittenLemmas.{lines_of_list}
use Rattle.dimacs_records.proofs.canonical.write_all.Goals as goal

pub returns : goal.returns
returns g c = λ start text h.
    let rs = c.args.records.now in
    rw (take_all (length rs) rs (omega arith)) at (c.write_lines.ensures (λ i. take i rs) (lines_of_list _ (length rs) rs (omega arith) (λ i rec within e. e)) start text h)
