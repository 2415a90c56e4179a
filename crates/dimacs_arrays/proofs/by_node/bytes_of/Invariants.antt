use Rattle.std.proofs.Common.{◌≡◌, map}
use Rattle.std.specs.List.{range_with_len}
use Rattle.dimacs_judging.specs.Cuts.{members}
use Rattle.dimacs_arrays.proofs.ByNodeLemmas.{byte_in}
use Rattle.dimacs_arrays.proofs.by_node.bytes_of.Given as goal

-- the bytes so far
abbrev pub invariant-loop-i : goal.invariant-loop-i
invariant-loop-i l = l.inside.items ≡ map (byte_in (members l.cut)) (range_with_len 1 l.i)
