use Rattle.std.proofs.Common.{Some, ap}
use Rattle.dimacs_lines.specs.Devices.{InMemory}
use Rattle.dimacs_arrays.specs.MinArrays.{SolvesMinArrays}
use Rattle.dimacs_c.specs.{Arrays.{min_found, buffers}, Calls.{handed}}
use Rattle.dimacs_c.proofs.ArrayLemmas.{items_answered}
use Rattle.dimacs_c.proofs.min.dimacs_solve_min_arrays.Goals as goal

pub returns : goal.returns
returns c =
    items_answered min_found (SolvesMinArrays c.args.instance.now c.args.limit) tt c.solve_min_arrays-answer.result c.solve_min_arrays-answer.ensures
    c.solved-found.result c.solved-found.ensures
    c.put-status.result c.put-status.ensures.status c.new-line.result.bytes c.put-status.new.sink.bytes (ap (λ (m : InMemory). m.bytes) c.new-line.ensures) c.put-status.ensures.line.accepted
    (buffers (handed c.args.out.now c.hand_printed-4.new.buffer c.hand_printed-4.new.needed) (Some (handed c.args.inside.now c.hand_printed.new.buffer c.hand_printed.new.needed)) (Some (handed c.args.potentials.now c.hand_printed-2.new.buffer c.hand_printed-2.new.needed)) (Some (handed c.args.flows.now c.hand_printed-3.new.buffer c.hand_printed-3.new.needed))) c.hand_printed-4.result (rw c.bytes.ensures at c.hand_printed-4.ensures)
    (c.hand_printed.result, c.hand_printed.ensures) (c.hand_printed-2.result, c.hand_printed-2.ensures) (c.hand_printed-3.result, c.hand_printed-3.ensures)
