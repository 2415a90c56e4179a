use Rattle.std.proofs.Common.{◌≡◌, take}
use Rattle.std.specs.Prelude.{min}
use Rattle.dimacs_lines.specs.Number.{place_sum}
use Rattle.dimacs_lines.proofs.numbers.long_size.Given as goal

abbrev pub invariant-loop-b : goal.invariant-loop-b
invariant-loop-b l = l.total ≡ min (place_sum (take l.b-index l.digits)) 1000000000000000000000000000001
