use Rattle.std.proofs.Common.{◌≡◌, drop}
use Rattle.dimacs_arrays.specs.Answers.{first_misfit}
use Rattle.dimacs_arrays.proofs.lengths.lengths_hold.Given as goal

-- the lengths of the arrays so far are right
abbrev pub invariant-loop-length : goal.invariant-loop-length
invariant-loop-length l = first_misfit (drop l.length-index l.lengths) ≡ first_misfit l.lengths
