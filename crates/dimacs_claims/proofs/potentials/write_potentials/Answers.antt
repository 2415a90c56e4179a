use Rattle.std.proofs.Common.{ap, map, arith}
use Rattle.dimacs_records.proofs.ReadLaws.{spells_one_value}
use Rattle.dimacs_claims.specs.Potentials.{canonical_potentials, node_line, with_values}
use Rattle.dimacs_claims.proofs.NodeLists.{passing, skipped_lines}
use Rattle.dimacs_claims.proofs.PotentialsLemmas.{nonzero_at, one_potentials, potential_lines, potentials_round_trip, skips_nonzero}
use Rattle.dimacs_claims.proofs.potentials.write_potentials.Goals as goal

pub put_sparse_text-requires-clause-lines : goal.put_sparse_text-requires-clause-lines
put_sparse_text-requires-clause-lines g c = λ i within. omega (arith, within, c.nodes-nodes.ensures.nodes, c.nodes-nodes.ensures.lawful.nodes_few)

pub put_sparse_text-requires-clause-numbers : goal.put_sparse_text-requires-clause-numbers
put_sparse_text-requires-clause-numbers g c = λ i within. (within, omega (arith, c.nodes-nodes.ensures.nodes, c.nodes-nodes.ensures.lawful.nodes_few))

pub put_sparse_text-requires-clause-onward : goal.put_sparse_text-requires-clause-onward
put_sparse_text-requires-clause-onward g c = λ i j is. (omega (arith, is.onward), omega (arith, is.within))

pub returns-clause-puts : goal.returns-clause-puts
returns-clause-puts g c =
    let p = c.args.potentials.now in
    rw (c.nodes-nodes.ensures.nodes, c.count_nonzero-count.ensures) at (c.put_sparse_text.ensures (λ i. map node_line (with_values p (passing (nonzero_at p) i))) (potential_lines p _ _ (λ i rec within e. e))
    (λ i j is. ap (λ ids. map node_line (with_values p ids)) (skipped_lines (nonzero_at p) _ _ _ (skips_nonzero p _ _ _ is))))

pub returns-clause-round_trip : goal.returns-clause-round_trip
returns-clause-round_trip g c = potentials_round_trip c.args.potentials.now c.nodes-nodes.ensures.lawful

pub returns-clause-same_text : goal.returns-clause-same_text
returns-clause-same_text g c = λ read spelled. ap canonical_potentials (spells_one_value _ _ _ read _ one_potentials spelled (potentials_round_trip _ c.nodes-nodes.ensures.lawful))
