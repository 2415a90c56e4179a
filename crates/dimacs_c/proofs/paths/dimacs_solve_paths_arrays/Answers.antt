use Rattle.std.proofs.Common.{None, Some, ap}
use Rattle.dimacs_lines.specs.Devices.{InMemory}
use Rattle.dimacs_arrays.specs.GraphArrays.{SolvesPathsArrays}
use Rattle.dimacs_c.specs.{Arrays.{paths_found, buffers}, Calls.{handed}}
use Rattle.dimacs_c.proofs.ArrayLemmas.{items_answered}
use Rattle.dimacs_c.proofs.paths.dimacs_solve_paths_arrays.Goals as goal

pub returns : goal.returns
returns c =
    items_answered paths_found (SolvesPathsArrays c.args.graph.now c.args.source) tt c.solve_paths_arrays-answer.result c.solve_paths_arrays-answer.ensures
    c.solved-found.result c.solved-found.ensures
    c.put-status.result c.put-status.ensures.status c.new-line.result.bytes c.put-status.new.sink.bytes (ap (λ (m : InMemory). m.bytes) c.new-line.ensures) c.put-status.ensures.line.accepted
    (buffers (handed c.args.out.now c.hand_printed-3.new.buffer c.hand_printed-3.new.needed) (Some (handed c.args.predecessors.now c.hand_printed.new.buffer c.hand_printed.new.needed)) (Some (handed c.args.distances.now c.hand_printed-2.new.buffer c.hand_printed-2.new.needed)) None) c.hand_printed-3.result (rw c.bytes.ensures at c.hand_printed-3.ensures)
    (c.hand_printed.result, c.hand_printed.ensures) (c.hand_printed-2.result, c.hand_printed-2.ensures) tt
