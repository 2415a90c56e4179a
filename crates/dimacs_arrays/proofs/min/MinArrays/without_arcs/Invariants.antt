use Rattle.std.proofs.Common.{◌≡◌}
use Rattle.dimacs_arrays.proofs.MinLemmas.{supplied_by}
use Rattle.dimacs_arrays.proofs.min.MinArrays.without_arcs.Given as goal

-- the supplies so far
abbrev pub invariant-loop-i : goal.invariant-loop-i
invariant-loop-i l = l.instance ≡ supplied_by l.self.supplies.now l.self.nodes l.i
