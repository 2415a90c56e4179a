use Rattle.std.proofs.Common.{None, Some, ap}
use Rattle.dimacs_lines.specs.Devices.{InMemory}
use Rattle.dimacs_arrays.specs.MaxArrays.{SolvesMaxArrays}
use Rattle.dimacs_c.specs.{Arrays.{max_found, buffers}, Calls.{handed}}
use Rattle.dimacs_c.proofs.ArrayLemmas.{items_answered}
use Rattle.dimacs_c.proofs.max.dimacs_solve_max_arrays.Goals as goal

pub returns : goal.returns
returns c =
    items_answered max_found (SolvesMaxArrays c.args.instance.now c.args.limit) tt c.solve_max_arrays-answer.result c.solve_max_arrays-answer.ensures
    c.solved-found.result c.solved-found.ensures
    c.put-status.result c.put-status.ensures.status c.new-line.result.bytes c.put-status.new.sink.bytes (ap (λ (m : InMemory). m.bytes) c.new-line.ensures) c.put-status.ensures.line.accepted
    (buffers (handed c.args.out.now c.hand_printed-3.new.buffer c.hand_printed-3.new.needed) (Some (handed c.args.inside.now c.hand_printed.new.buffer c.hand_printed.new.needed)) None (Some (handed c.args.flows.now c.hand_printed-2.new.buffer c.hand_printed-2.new.needed))) c.hand_printed-3.result (rw c.bytes.ensures at c.hand_printed-3.ensures)
    (c.hand_printed.result, c.hand_printed.ensures) tt (c.hand_printed-2.result, c.hand_printed-2.ensures)
