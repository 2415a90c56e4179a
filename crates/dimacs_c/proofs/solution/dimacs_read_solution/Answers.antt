use Rattle.std.proofs.{Common.{None, Some, ap, w64, rules, SFits}, lemmas.Int.{to_z-of_z}}
use Rattle.dimacs_lines.specs.Devices.{InMemory}
use Rattle.dimacs_arrays.specs.SolutionArrays.{ReadsSolutionArrays}
use Rattle.dimacs_c.specs.{ArrayTexts.{flow_read, value_read}, Arrays.{buffers}, Calls.{handed}}
use Rattle.dimacs_c.proofs.{ArrayLemmas.{claim_answered}, ReadLemmas.{value_set}}
use Rattle.dimacs_c.proofs.solution.dimacs_read_solution.Goals as goal

pub returns : goal.returns
returns c =
    let fits : SFits w64 c.value_of.result = search rules in
    rw (to_z-of_z w64 c.value_of.result fits) (
    claim_answered flow_read (ReadsSolutionArrays (record { nodes = c.args.nodes; tails = c.args.tails; heads = c.args.heads }) c.args.text.now) tt c.read_solution_arrays-answer.result c.read_solution_arrays-answer.ensures c.claimed-found.result c.claimed-found.ensures value_read
    c.put-status.result c.put-status.ensures.status c.new-line.result.bytes c.put-status.new.sink.bytes (ap (λ (m : InMemory). m.bytes) c.new-line.ensures) c.put-status.ensures.line.accepted
    (buffers (handed c.args.out.now c.hand_printed-2.new.buffer c.hand_printed-2.new.needed) None None (Some (handed c.args.flows.now c.hand_printed.new.buffer c.hand_printed.new.needed))) c.hand_printed-2.result (rw c.bytes.ensures at c.hand_printed-2.ensures)
    tt tt (c.hand_printed.result, c.hand_printed.ensures) _ (value_set c.put-status.result c.read_solution_arrays-answer.result _ c.value_of.ensures)
    )
