use Rattle.std.proofs.Common.{ap, ◌≡◌, ◌∷◌, ◌+◌, [], refl, length, map, take, arith, rules}
use Rattle.dimacs_records.specs.declared.records.Record.TheVariants.{MinProblem}
use Rattle.dimacs_records.proofs.ReadLaws.{spells_one_value}
use Rattle.dimacs_records.proofs.WrittenLemmas.{all_items, line_after, lines_after, lines_of_items}
use Rattle.dimacs_instance.specs.MinTexts.{canonical_min, min_arc, min_node}
use Rattle.dimacs_instance.proofs.MinTextLemmas.{min_round_trip, one_min}
use Rattle.dimacs_instance.proofs.MinSupplies.{all_supplies, skipped_supplies, supplies_below, supply_lines}
use Rattle.dimacs_instance.proofs.min.writing.write_min.Goals as goal

pub write_sparse_lines-requires-clause-lines : goal.write_sparse_lines-requires-clause-lines
write_sparse_lines-requires-clause-lines g c = λ i within. omega (arith, within, c.nodes-nodes.ensures, c.network-network.ensures.nodes, c.network-network.ensures.lawful.nodes_few)

pub write_sparse_lines-requires-clause-numbers : goal.write_sparse_lines-requires-clause-numbers
write_sparse_lines-requires-clause-numbers g c = λ i within. (within, omega (arith, c.nodes-nodes.ensures, c.network-network.ensures.nodes, c.network-network.ensures.lawful.nodes_few))

pub write_sparse_lines-requires-clause-onward : goal.write_sparse_lines-requires-clause-onward
write_sparse_lines-requires-clause-onward g c = λ i j is. (omega (arith, is.onward), omega (arith, is.within))

pub write_lines-requires : goal.write_lines-requires
write_lines-requires g c = λ i within. search (rules, within)

pub returns-clause-puts : goal.returns-clause-puts
returns-clause-puts g c =
    let m = c.args.instance.now in
    let law = c.network-network.ensures.lawful in
    let start = g.S.Sink.seen c.args.sink.now in
    let nodes = c.nodes-nodes.result in
    let n = c.arcs-arcs.result in
    let all_nodes : nodes ≡ m.nodes = rw c.network-network.ensures.nodes at c.nodes-nodes.ensures in
    let all_arcs : n ≡ length m.arcs = rw c.network-network.ensures.arcs at c.arcs-arcs.ensures in
    let problem = MinProblem nodes n in
    let supplies = map min_node (supplies_below m (nodes + 1)) in
    let first = line_after start _ _ [] problem (c.write_record.ensures start [] (c.new-output.ensures.written start)) in
    let second = lines_after start _ _ [] (problem ∷ []) supplies _ refl (c.write_sparse_lines.ensures (λ i. map min_node (supplies_below m (i + 1))) (supply_lines m law _ nodes (λ i rec within e. e)) (λ i j is. ap (map min_node) (skipped_supplies m law _ _ _ is)) start _ first) in
    let third = lines_after start _ _ [] (problem ∷ supplies) (take n (map min_arc m.arcs)) _ refl
    (c.write_lines.ensures (λ i. take i (map min_arc m.arcs)) (lines_of_items min_arc _ n m.arcs (omega (arith, all_arcs)) (λ i rec within e. rw c.network-network.ensures.arcs at e)) start _ second) in
    rw (all_items min_arc n m.arcs all_arcs, all_nodes, all_arcs, all_supplies m law) at (c.finish.ensures start _ third)

pub returns-clause-round_trip : goal.returns-clause-round_trip
returns-clause-round_trip g c = min_round_trip c.args.instance.now c.network-network.ensures.lawful

pub returns-clause-same_text : goal.returns-clause-same_text
returns-clause-same_text g c = λ read spelled. ap canonical_min (spells_one_value _ _ _ read _ one_min spelled (min_round_trip _ c.network-network.ensures.lawful))
