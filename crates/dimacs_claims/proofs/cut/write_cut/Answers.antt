use Rattle.std.proofs.Common.{ap, map, arith}
use Rattle.dimacs_records.specs.declared.records.Record.TheVariants.{CutNode}
use Rattle.dimacs_records.proofs.ReadLaws.{spells_one_value}
use Rattle.dimacs_claims.specs.Cuts.{canonical_cut}
use Rattle.dimacs_claims.proofs.CutLemmas.{cut_round_trip, one_cut}
use Rattle.dimacs_claims.proofs.NodeLists.{lines_of_passing, passing, skipped_lines}
use Rattle.std.specs.FinSet as set
use Rattle.dimacs_claims.proofs.cut.write_cut.Goals as goal

pub put_sparse_text-requires-clause-lines : goal.put_sparse_text-requires-clause-lines
put_sparse_text-requires-clause-lines g c = λ i within. omega (arith, within, c.nodes-nodes.ensures, c.len-count.ensures.lawful.nodes_few)

pub put_sparse_text-requires-clause-numbers : goal.put_sparse_text-requires-clause-numbers
put_sparse_text-requires-clause-numbers g c = λ i within. (within, omega (arith, c.nodes-nodes.ensures, c.len-count.ensures.lawful.nodes_few))

pub put_sparse_text-requires-clause-onward : goal.put_sparse_text-requires-clause-onward
put_sparse_text-requires-clause-onward g c = λ i j is. (omega (arith, is.onward), omega (arith, is.within))

pub returns-clause-puts : goal.returns-clause-puts
returns-clause-puts g c =
    let is_in = set.contains c.args.cut.now.ids in
    rw (c.nodes-nodes.ensures, c.len-count.ensures.count) at (c.put_sparse_text.ensures (λ i. map CutNode (passing is_in i)) (lines_of_passing is_in CutNode _ _ (λ i rec within e. e)) (λ i j is. ap (map CutNode) (skipped_lines is_in _ _ _ is)))

pub returns-clause-round_trip : goal.returns-clause-round_trip
returns-clause-round_trip g c = cut_round_trip c.args.cut.now c.len-count.ensures.lawful

pub returns-clause-same_text : goal.returns-clause-same_text
returns-clause-same_text g c = λ read spelled. ap canonical_cut (spells_one_value _ _ _ read _ one_cut spelled (cut_round_trip _ c.len-count.ensures.lawful))
